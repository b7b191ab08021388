-- What `sample N` writes: five lines on what came of the script of a sample.
use Rattle.std.specs.Prelude.{◌≡◌, ℕ, List, ◌++◌, length, codes, Option, option_and_then}
use Rattle.std.specs.Fmt.{decimal as number}
use Rattle.std.specs.List.{filter_map}
use Rattle.scaled_decimal.specs.Decimals.{Decimal}
use Rattle.carry_bindings.specs.Carrying.{named, total}
use Rattle.book_year.specs.Rows.{done_outputs}
use Rattle.book_year.specs.declared.outcome.Work.{Work}
use Rattle.recalc_engine.specs.Contents.{Contents}
use Rattle.recalc_engine.specs.MonthRows.{KeyedRow, month_rows}
use Rattle.plan_answers.specs.Answers.{Answer}
use Rattle.plan_answers.specs.Lines.{spaced, line}
use Rattle.script_steps.specs.Steps.{Standing}
use Rattle.script_run.specs.Samples.{sample_lines, script_of}
use Rattle.script_run.specs.SampleFiles.{sample_files}
use Rattle.script_run.specs.Transcripts.{Session, IsTranscript}
use Rattle.pap_cli.specs.RunLines.{value_line}

-- the LST of a run, where it has one
abbrev pub tax_of : KeyedRow → Option Decimal
tax_of row = option_and_then (named (codes "LST")) (done_outputs row.state)

-- the LST of all runs of a book, added up
abbrev pub tax_sum : Contents → Decimal
tax_sum book = total (filter_map tax_of (month_rows book))

-- NAME N
abbrev pub count_line : List ℕ → ℕ → List ℕ
count_line name count = line (spaced name (number count))

-- how many lines the script of a sample has, and how many runs its book
abbrev pub book_lines : ℕ → Contents → List ℕ
book_lines employees book =
    count_line (codes "lines") (length (sample_lines employees))
    ++ count_line (codes "records") (length (month_rows book))

-- what all edits of a sample had to run, and in how many steps
abbrev pub work_lines : Work → List ℕ
work_lines made = count_line (codes "runs") made.runs ++ count_line (codes "steps") made.steps

-- what came of a sample: its lines, its runs, its work, and the LST of its book
abbrev pub summary_text : ℕ → Standing → List ℕ
summary_text employees standing =
    book_lines employees standing.book ++ work_lines standing.made
    ++ value_line (codes "LST") (tax_sum standing.book)

-- the answer of `sample N`: what came of its script, over its two files
pub record IsSampled (employees : ℕ) (answer : Answer) : Type 0 where
  pub session : Session
  pub is : IsTranscript sample_files (script_of (sample_lines employees)) session
  pub text : answer.text ≡ summary_text employees session.standing
  pub refused : answer.refused ≡ session.refused
  pub cost : answer.steps ≡ session.steps
