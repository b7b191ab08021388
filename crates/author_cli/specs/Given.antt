-- The inputs of a run that stands alone: those that a range file fills from earlier runs are given like the others.
use Rattle.std.specs.Prelude.{◌≡◌, ℕ, List, [], Some, slice_get}
use Rattle.limits_file.specs.declared.limits.Limits.{Limits}
use Rattle.payroll_records.specs.declared.values.NamedValue.{NamedValue}
use Rattle.carry_bindings.specs.declared.filling.Blocked.{Blocked}
use Rattle.carry_bindings.specs.declared.filling.Filled.{Filled}
use Rattle.pay_run.specs.Accepted.{Accepted}
use Rattle.pay_run.specs.Runs.{filled}
use Rattle.plain_words.specs.declared.state.RunReason.{RunReason}
use Rattle.plain_words.specs.Places.{PlanFiles}
use Rattle.plain_words.specs.States.{blocked_by, SaysState}
use Rattle.diagnostics.specs.RunReasons.{run_reasons}

-- a range file that fills no input from earlier runs, with the same ranges
abbrev pub unbound : Limits → Limits
unbound l = record l { bindings = [] }

-- an accepted plan with such a range file
abbrev pub unbound_plan : Accepted → Accepted
unbound_plan p = record p { meaning = record p.meaning { limits = unbound p.meaning.limits } }

-- the inputs of an accepted plan's run on these values, or why it has none: each input takes the value that is given, or else its
-- default
abbrev pub filled_given : Accepted → List NamedValue → Filled
filled_given p values = filled (unbound_plan p) values []

-- the words say why a run of these files' plan on these values has no inputs: the first reason, of which the state is the answer
pub record SaysGiven (p : Accepted) (values : List NamedValue) (files : PlanFiles) (state : Blocked) (words : List ℕ) : Type 0 where
  pub reason : RunReason
  pub first : slice_get (run_reasons (unbound_plan p) values) 0 ≡ Some reason
  pub answer : blocked_by reason ≡ state
  pub says : SaysState files reason words
