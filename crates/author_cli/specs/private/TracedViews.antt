-- Parts of the answer on a run.
use Rattle.std.specs.Prelude.{◌≡◌, ℕ, List, Option, Some, None}
use Rattle.scaled_decimal.specs.Decimals.{Decimal}
use Rattle.pap_tree.specs.Flowchart.{Flowchart}
use Rattle.payroll_records.specs.declared.values.NamedValue.{NamedValue}
use Rattle.carry_bindings.specs.declared.filling.Blocked.{Blocked}
use Rattle.plan_answers.specs.Lines.{refusal_line}
use Rattle.plan_notes.specs.declared.notes.Notes.{Notes}
use Rattle.plan_notes.specs.Notes.{HasNotes}
use Rattle.plain_words.specs.Lines.{IsOneLine}
use Rattle.pay_run.specs.Accepted.{Accepted}
use Rattle.plain_words.specs.Places.{PlanFiles}
use Rattle.source_lines.specs.Lines.{lines_of_file}
use Rattle.run_trace.specs.RunTexts.{TellsRun}
use Rattle.author_cli.specs.Given.{SaysGiven}
use Rattle.author_cli.specs.Traced.{state_detail}

-- the text tells of a run of this flowchart, with the lines of the file
pub record IsRunOf (file : List ℕ) (f : Flowchart) (given : List NamedValue) (inputs : List Decimal)
    (text : List ℕ) (reason : Option (List ℕ)) : Type 0 where
  pub notes : Notes
  pub noted : HasNotes file notes
  pub told : TellsRun f (lines_of_file file notes.marks.items) given inputs text
  pub silent : reason ≡ None

-- the line of a run that has no inputs, and the words that say why
pub record SaysBlocked (p : Accepted) (values : List NamedValue) (files : PlanFiles) (state : Blocked) (text : List ℕ)
    (reason : Option (List ℕ)) : Type 0 where
  pub written : text ≡ refusal_line (state_detail state)
  pub words : List ℕ
  pub said : reason ≡ Some words
  pub line : IsOneLine words
  pub says : SaysGiven p values files state words
