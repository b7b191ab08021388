-- Parts of the page of a run.
use Rattle.std.specs.Prelude.{◌≡◌, ℕ, List, Option, Some, None}
use Rattle.scaled_decimal.specs.Decimals.{Decimal}
use Rattle.pap_tree.specs.Flowchart.{Flowchart}
use Rattle.payroll_records.specs.declared.values.NamedValue.{NamedValue}
use Rattle.carry_bindings.specs.declared.filling.Blocked.{Blocked}
use Rattle.pap_plan.specs.AcceptanceClauses.{IsAcceptedAs}
use Rattle.plan_notes.specs.declared.notes.Notes.{Notes}
use Rattle.plan_notes.specs.Notes.{HasNotes}
use Rattle.plain_words.specs.Lines.{IsOneLine}
use Rattle.pay_run.specs.Accepted.{accepted}
use Rattle.plain_words.specs.Places.{files_of}
use Rattle.flowchart_page.specs.Findings.{IsFound}
use Rattle.flowchart_page.specs.Judged.{finding_of, words_of, HasLine}
use Rattle.flowchart_page.specs.Pages.{IsRunPage}
use Rattle.source_lines.specs.Lines.{lines_of_file}
use Rattle.run_trace.specs.ShownRuns.{RunPieces, ShowsRun}
use Rattle.run_trace.specs.RunPages.{blocked_part}
use Rattle.author_cli.specs.declared.drawn.Judged.{Judged}
use Rattle.author_cli.specs.Given.{SaysGiven}
use Rattle.author_cli.specs.Drawn.{shown_run, shown_part, blocked_line}

-- the plan is accepted from the bytes of both files, and this is the verdict on it
pub record IsOfFiles (j : Judged) : Type 0 where
  pub accepted : IsAcceptedAs j.plan.bytes.now j.limits.bytes.now j.accepted.now
  pub found : IsFound j.plan.bytes.now (Some j.limits.bytes.now) (finding_of j.verdict.now)
  pub line : HasLine j.plan.bytes.now j.verdict.now
  pub silent : words_of j.verdict.now ≡ None

-- the page of the plan shows a run of this flowchart
pub record DrawsRun (j : Judged) (f : Flowchart) (given : List NamedValue) (inputs : List Decimal) (text : List ℕ)
    (reason : Option (List ℕ)) : Type 0 where
  pub notes : Notes
  pub noted : HasNotes j.plan.bytes.now notes
  pub run : RunPieces
  pub shows : ShowsRun f (lines_of_file j.plan.bytes.now notes.marks.items) given inputs run
  pub page : IsRunPage (Some (shown_run run)) j.plan.bytes.now (Some j.limits.bytes.now) None text
  pub silent : reason ≡ None

-- the page of the plan says why a run has no inputs
pub record DrawsBlocked (j : Judged) (values : List NamedValue) (state : Blocked) (text : List ℕ) (reason : Option (List ℕ))
    : Type 0 where
  pub words : List ℕ
  pub said : reason ≡ Some words
  pub line : IsOneLine words
  pub says : SaysGiven (accepted j.accepted.now) values (files_of j.plan j.limits) state words
  pub page : IsRunPage (Some (shown_part (blocked_part words (blocked_line state)))) j.plan.bytes.now (Some j.limits.bytes.now) None text
