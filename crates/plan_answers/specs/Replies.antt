-- A reply of the program, as the answer that it stands for.
use Rattle.plan_answers.specs.declared.reply.Reply.{Reply}
use Rattle.plan_answers.specs.Answers.{Answer}

-- a reply of the program as the answer that it stands for
abbrev pub reply_of : Reply → Answer
reply_of r = record { text = r.text.items; refused = r.refused; steps = r.steps }
