-- Why an answer on two files is a refusal, in plain words.
use Rattle.std.specs.Prelude.{◌≡◌, ◌⊎◌, ℕ, List, [], Option, Some, option_map, slice_get}
use Rattle.std.specs.Option.{ForSome}
use Rattle.outside.specs.Told.{FileMap}
use Rattle.payroll_records.specs.declared.values.NamedValue.{NamedValue}
use Rattle.carry_bindings.specs.declared.filling.Blocked.{Blocked}
use Rattle.carry_bindings.specs.declared.filling.Filled.TheVariants.{State}
use Rattle.pap_plan.specs.declared.refusal.PlanRefusal.{PlanRefusal}
use Rattle.pap_plan.specs.Acceptance.{Meaning, IsAccepted, IsRefused}
use Rattle.pay_run.specs.Accepted.{Accepted}
use Rattle.pay_run.specs.Runs.{filled}
use Rattle.diagnostics.specs.FaultLines.{IsStateLine, TellsEach}
use Rattle.diagnostics.specs.FurtherFaults.{TellsFaults}
use Rattle.diagnostics.specs.RunReasons.{run_reasons}
use Rattle.plain_words.specs.Places.{PlanFiles}
use Rattle.plain_words.specs.States.{blocked_by}
use Rattle.plan_answers.specs.Fronts.{AreFronts}
use Rattle.pap_cli.specs.Words.{Form, check, once}

-- two files of these names, with these bytes
abbrev pub files_on : List ℕ → List ℕ → List ℕ → List ℕ → PlanFiles
files_on plan limits bytes ranges = record {
  plan = record { name = plan; bytes = bytes };
  ranges = record { name = limits; bytes = ranges };
}

-- the plan of two files that are accepted
abbrev pub accepted_files : PlanFiles → Meaning → Accepted
accepted_files files meaning = record { plan = files.plan.bytes; limits = files.ranges.bytes; meaning = meaning }

-- a run of this plan on these values has no inputs: the text tells all reasons, and the first tells more of the one that is answered
pub record TellsReasons (values : List NamedValue) (p : Accepted) (files : PlanFiles) (text : List ℕ) : Type 0 where
  pub state : Blocked
  pub blocked : filled p values [] ≡ State state
  pub first : option_map blocked_by (slice_get (run_reasons p values) 0) ≡ Some state
  pub tells : TellsEach (IsStateLine files) (run_reasons p values) text

-- the plan of these files is refused: the text tells that in its first line, and then further faults
pub record TellsRefusal (files : PlanFiles) (text : List ℕ) : Type 0 where
  pub refusal : PlanRefusal
  pub refused : IsRefused files.plan.bytes files.ranges.bytes refusal
  pub tells : TellsFaults files refusal text

-- these files are accepted, and a run on these values has no inputs: the text tells all reasons, of which the first tells more of the
-- one that is answered
pub record TellsState (values : List NamedValue) (files : PlanFiles) (text : List ℕ) : Type 0 where
  pub meaning : Meaning
  pub accepted : IsAccepted files.plan.bytes files.ranges.bytes meaning
  pub reasons : TellsReasons values (accepted_files files meaning) files text

-- the text says why the plan is refused, or why its run on these values has no inputs
abbrev pub TellsOnce : List NamedValue → PlanFiles → List ℕ → Type 0
TellsOnce values files text = TellsRefusal files text ⊎ TellsState values files text

-- the text tells such a thing of what was read of the two files: where the files tell what they hold, these are its first bytes
pub record IsReasonOn (Tells : PlanFiles → List ℕ → Type 0) (plan limits : List ℕ) (told : Option FileMap) (text : List ℕ) : Type 0 where
  pub bytes : List ℕ
  pub ranges : List ℕ
  pub read : ForSome told (λ files. AreFronts files plan limits bytes ranges)
  pub tells : Tells (files_on plan limits bytes ranges) text

-- the text is lines that say why the answer of this form is a refusal
abbrev pub IsReasonFor : Form → Option FileMap → List ℕ → Type 0
IsReasonFor (check plan limits) told text = IsReasonOn TellsRefusal plan limits told text
IsReasonFor (once plan limits values) told text = IsReasonOn (TellsOnce values) plan limits told text
IsReasonFor _ told text = ⊥
