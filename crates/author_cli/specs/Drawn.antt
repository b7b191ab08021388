-- The page of a run of a plan.
use Rattle.std.specs.Prelude.{◌≡◌, ◌⊎◌, ℕ, List, [], ◌++◌, codes, Option, Some, None}
use Rattle.scaled_decimal.specs.Decimals.{Decimal}
use Rattle.payroll_records.specs.declared.values.NamedValue.{NamedValue}
use Rattle.carry_bindings.specs.declared.filling.Blocked.{Blocked}
use Rattle.carry_bindings.specs.declared.filling.Filled.TheVariants.{Inputs, State}
use Rattle.pap_plan.specs.Acceptance.{Meaning, IsAccepted}
use Rattle.plan_notes.specs.declared.notes.Notes.{Notes}
use Rattle.plan_notes.specs.Notes.{HasNotes}
use Rattle.plain_words.specs.Lines.{IsOneLine}
use Rattle.plain_words.specs.Places.{NamedText}
use Rattle.plain_words.specs.Refusals.{TellsPlan}
use Rattle.flowchart_page.specs.Pages.{IsPage, IsRunPage}
use Rattle.flowchart_page.specs.Runs.{RunParts}
use Rattle.flowchart_page.specs.declared.subject.Subject.TheVariants.{Run as OfRun}
use Rattle.flowchart_page.specs.Verdicts.{files_with}
use Rattle.source_lines.specs.Lines.{lines_of_file}
use Rattle.run_trace.specs.ShownRuns.{RunPieces, ShowsRun}
use Rattle.run_trace.specs.RunPages.{blocked_part}
use Rattle.author_cli.specs.Given.{SaysGiven}
use Rattle.author_cli.specs.Traced.{accepted_texts, filled_alone, state_detail}

-- what a page shows of a run: the part of it that tells of the run, and in the drawings the marks of its statements
abbrev pub shown_run : RunPieces → RunParts
shown_run run = record { subject = OfRun; part = run.part; marks = run.marks; internals = [] }

-- what a page shows of a run that there is none of, by this part of it: no marks in the drawings
abbrev pub shown_part : List ℕ → RunParts
shown_part part = record { subject = OfRun; part = part; marks = []; internals = [] }

-- the plan is accepted, and its page shows the run on these values, with the lines of the plan's file
pub record IsDrawnRun (values : List NamedValue) (plan limits text : List ℕ) (reason : Option (List ℕ)) : Type 0 where
  pub meaning : Meaning
  pub accepted : IsAccepted plan limits meaning
  pub inputs : List Decimal
  pub given : filled_alone values plan limits meaning ≡ Inputs inputs
  pub notes : Notes
  pub noted : HasNotes plan notes
  pub run : RunPieces
  pub shows : ShowsRun meaning.flowchart (lines_of_file plan notes.marks.items) values inputs run
  pub page : IsRunPage (Some (shown_run run)) plan (Some limits) None text
  pub silent : reason ≡ None

-- the line that `once` has for a run without inputs
abbrev pub blocked_line : Blocked → List ℕ
blocked_line state = codes "refused " ++ state_detail state

-- the plan is accepted, a run on these values has no inputs, and the page says why
pub record IsDrawnBlocked (values : List NamedValue) (plan limits : NamedText) (text : List ℕ) (reason : Option (List ℕ)) : Type 0 where
  pub meaning : Meaning
  pub accepted : IsAccepted plan.bytes limits.bytes meaning
  pub state : Blocked
  pub blocked : filled_alone values plan.bytes limits.bytes meaning ≡ State state
  pub words : List ℕ
  pub said : reason ≡ Some words
  pub line : IsOneLine words
  pub says : SaysGiven (accepted_texts plan.bytes limits.bytes meaning) values (files_with plan (Some limits)) state words
  pub page : IsRunPage (Some (shown_part (blocked_part words (blocked_line state)))) plan.bytes (Some limits.bytes) None text

-- the page of a refused plan, with the words that say why it is refused
pub record IsDrawnRefused (plan limits : NamedText) (text : List ℕ) (reason : Option (List ℕ)) : Type 0 where
  pub words : List ℕ
  pub said : reason ≡ Some words
  pub tells : TellsPlan (files_with plan (Some limits)) words
  pub page : IsPage plan.bytes (Some limits.bytes) (Some words) text

-- this is the answer of `trace` on two files: the page with the run, with why there is none, or of a refused plan
abbrev pub IsDrawn : List NamedValue → (plan limits : NamedText) → List ℕ → Option (List ℕ) → Type 0
IsDrawn values plan limits text reason =
    IsDrawnRun values plan.bytes limits.bytes text reason
    ⊎ (IsDrawnBlocked values plan limits text reason ⊎ IsDrawnRefused plan limits text reason)
