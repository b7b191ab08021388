-- Which answer a command asks for, and the run of a plan on the values of a record.
use Rattle.std.specs.Prelude.{ℕ, List, [], Bool, Option, is_some, Result, Ok, Err, String}
use Rattle.std.specs.declared.alloc.Global.{Global}
use Rattle.payroll_records.specs.declared.values.NamedValue.{NamedValue}
use Rattle.pap_plan.specs.Plans.{Seen, flowchart}
use Rattle.pay_run.specs.Accepted.{accepted}
use Rattle.pay_run.specs.Runs.{filled}
use Rattle.script_run.specs.declared.stop.Stop.{Stop}
use Rattle.pap_cli.specs.declared.reply.FileReply.{FileReply}
use Rattle.pap_cli.specs.declared.words.Command.{Command}
use Rattle.pap_cli.specs.declared.words.Command.TheVariants.{Check, Once}
use Rattle.plan_answers.specs.Answers.{Answer, CheckAnswers}
use Rattle.pap_cli.specs.RunAnswers.{IsRunOn, OnceAnswers}

-- what a command answers on the two texts
abbrev pub answers_of : Command → List ℕ → List ℕ → Answer → Type 0
answers_of Check = CheckAnswers
answers_of (Once values) = OnceAnswers values

-- the run of a plan on a record's values, without earlier runs
abbrev pub IsRunWith : List NamedValue → Seen → Answer → Type 0
IsRunWith values p answer = IsRunOn (flowchart p) (filled (accepted p) values []) answer

-- a reply as the answer that it stands for, which is a refusal where it has a reason
abbrev pub answer_of : FileReply → Answer
answer_of r = record { text = r.text.items; refused = is_some r.reason; steps = r.steps }

-- whether an answer that was written is a refusal: it has a reason
abbrev pub refused_of : Result (Option (String Global)) Stop → Result Bool Stop
refused_of (Ok reason) = Ok (is_some reason)
refused_of (Err stop) = Err stop
