-- What is written of a run of a plan.
use Rattle.std.specs.Prelude.{◌≡◌, ◌⊎◌, ℕ, List, [], ◌++◌, codes, Option, Some, None}
use Rattle.scaled_decimal.specs.Decimals.{Decimal}
use Rattle.payroll_records.specs.declared.values.NamedValue.{NamedValue}
use Rattle.carry_bindings.specs.declared.filling.Blocked.{Blocked}
use Rattle.carry_bindings.specs.declared.filling.Blocked.TheVariants as blocked
use Rattle.carry_bindings.specs.declared.filling.Filled.{Filled}
use Rattle.carry_bindings.specs.declared.filling.Filled.TheVariants.{Inputs, State}
use Rattle.pap_plan.specs.declared.refusal.PlanRefusal.{PlanRefusal}
use Rattle.pap_plan.specs.Acceptance.{Meaning, IsAccepted, IsRefused}
use Rattle.pay_run.specs.Accepted.{Accepted}
use Rattle.plan_answers.specs.Refusals.{HasDetail}
use Rattle.plan_answers.specs.Lines.{refusal_line}
use Rattle.plan_notes.specs.declared.notes.Notes.{Notes}
use Rattle.plan_notes.specs.Notes.{HasNotes}
use Rattle.plain_words.specs.Lines.{IsOneLine}
use Rattle.plain_words.specs.Places.{NamedText}
use Rattle.plain_words.specs.Refusals.{TellsPlan}
use Rattle.flowchart_page.specs.Verdicts.{files_with}
use Rattle.source_lines.specs.Lines.{lines_of_file}
use Rattle.run_trace.specs.RunTexts.{TellsRun}
use Rattle.author_cli.specs.Given.{filled_given, SaysGiven}

-- the plan of two texts that are accepted
abbrev pub accepted_texts : List ℕ → List ℕ → Meaning → Accepted
accepted_texts plan limits m = record { plan = plan; limits = limits; meaning = m }

-- the inputs of an accepted plan's run on these values, or why it has none
abbrev pub filled_alone : List NamedValue → List ℕ → List ℕ → Meaning → Filled
filled_alone values plan limits m = filled_given (accepted_texts plan limits m) values

-- the plan is accepted, and the text tells of its run on these values, with the lines of the plan's file
pub record IsToldRun (values : List NamedValue) (plan limits text : List ℕ) (reason : Option (List ℕ)) : Type 0 where
  pub meaning : Meaning
  pub accepted : IsAccepted plan limits meaning
  pub inputs : List Decimal
  pub given : filled_alone values plan limits meaning ≡ Inputs inputs
  pub notes : Notes
  pub noted : HasNotes plan notes
  pub told : TellsRun meaning.flowchart (lines_of_file plan notes.marks.items) values inputs text
  pub silent : reason ≡ None

-- why a run has no inputs, as `once` writes it behind `refused`; a run without earlier ones waits for none
abbrev pub state_detail : Blocked → List ℕ
state_detail (blocked.Waits day) = []
state_detail (blocked.Unknown name) = codes "state unknown " ++ name
state_detail (blocked.Missing name) = codes "state missing " ++ name
state_detail (blocked.Range name) = codes "state range " ++ name

-- the plan is accepted, and a run on these values has no inputs: the line of that, and the words that say why
pub record IsBlockedRun (values : List NamedValue) (plan limits : NamedText) (text : List ℕ) (reason : Option (List ℕ)) : Type 0 where
  pub meaning : Meaning
  pub accepted : IsAccepted plan.bytes limits.bytes meaning
  pub state : Blocked
  pub blocked : filled_alone values plan.bytes limits.bytes meaning ≡ State state
  pub written : text ≡ refusal_line (state_detail state)
  pub words : List ℕ
  pub said : reason ≡ Some words
  pub line : IsOneLine words
  pub says : SaysGiven (accepted_texts plan.bytes limits.bytes meaning) values (files_with plan (Some limits)) state words

-- a plan is refused so: the line of that, as `check` writes it, and the words that say why
pub record IsRefusedAs (refusal : PlanRefusal) (plan limits : NamedText) (text : List ℕ) (reason : Option (List ℕ))
    : Type 0 where
  pub refused : IsRefused plan.bytes limits.bytes refusal
  pub detail : List ℕ
  pub has : HasDetail plan.bytes refusal detail
  pub written : text ≡ refusal_line detail
  pub words : List ℕ
  pub said : reason ≡ Some words
  pub tells : TellsPlan (files_with plan (Some limits)) words

-- the plan is refused, and it is told how
abbrev pub IsRefusedRun : (plan limits : NamedText) → List ℕ → Option (List ℕ) → Type 0
IsRefusedRun plan limits text reason = (r : PlanRefusal) × IsRefusedAs r plan limits text reason

-- this is the answer of `text trace` on two files: the text of the run, or why there is none
abbrev pub IsTraced : List NamedValue → (plan limits : NamedText) → List ℕ → Option (List ℕ) → Type 0
IsTraced values plan limits text reason =
    IsToldRun values plan.bytes limits.bytes text reason
    ⊎ (IsBlockedRun values plan limits text reason ⊎ IsRefusedRun plan limits text reason)
