-- What is answered to a line, as the answer that it stands for: a refusal says what is wrong.
use Rattle.std.specs.Prelude.{is_some}
use Rattle.plan_answers.specs.Answers.{Answer}
use Rattle.script_steps.specs.declared.reply.LineReply.{LineReply}

abbrev pub reply_of : LineReply → Answer
reply_of r = record { text = r.text.items; refused = is_some r.wrong; steps = r.steps }
