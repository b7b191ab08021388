-- What is written of the runs of a table through a plan.
use Rattle.std.specs.Prelude.{◌≡◌, ◌⊎◌, ℕ, List, [], ◌++◌, codes, nat_lt, if◌then◌else◌, Option, Some, None}
use Rattle.std.specs.Fmt.{decimal as number}
use Rattle.payroll_records.specs.declared.table.TableFault.{TableFault}
use Rattle.payroll_records.specs.Limits.{most_records}
use Rattle.book_edits.specs.declared.refusal.EditRefusal.TheVariants as edits
use Rattle.pap_plan.specs.declared.refusal.PlanRefusal.{PlanRefusal}
use Rattle.plain_words.specs.Lines.{IsOneLine}
use Rattle.plain_words.specs.Places.{NamedText}
use Rattle.plan_answers.specs.Lines.{refusal_line}
use Rattle.script_steps.specs.LineTexts.{table_detail, edit_detail}
use Rattle.flowchart_page.specs.Pages.{IsRunPage}
use Rattle.flowchart_page.specs.Runs.{RunParts}
use Rattle.flowchart_page.specs.declared.subject.Subject.TheVariants.{Coverage as OfCoverage}
use Rattle.table_coverage.specs.TableCoverages.{CoverFiles, RunsFound, found_text, found_share, found_part, found_marks, IsCovered, IsTableRefused, HasManyRuns}
use Rattle.author_cli.specs.Words.{Medium, as_text, as_page}
use Rattle.author_cli.specs.Traced.{IsRefusedAs}

-- what is said of a share below the one that is asked for; nothing where it isn't below
abbrev pub low_share_words : ℕ → ℕ → Option (List ℕ)
low_share_words share least =
    if nat_lt share least then Some (codes "covered " ++ (number share ++ (codes " percent, less than the "
    ++ (number least ++ codes " percent asked for"))))
    else None

-- the same, and nothing where none is asked for
abbrev pub share_words : ℕ → Option ℕ → Option (List ℕ)
share_words share None = None
share_words share (Some least) = low_share_words share least

-- what the page of a plan shows of runs: the part of it that tells to what they came, and in the drawings how many came to each
-- statement
abbrev pub shown_coverage : RunsFound → RunParts
shown_coverage found = record { subject = OfCoverage; part = found_part found; marks = found_marks found; internals = [] }

-- the text tells what is found of runs, or the page of the accepted plan shows it
abbrev pub WritesFound : Medium → (plan limits : List ℕ) → RunsFound → List ℕ → Type 0
WritesFound as_text plan limits found text = text ≡ found_text found
WritesFound as_page plan limits found text = IsRunPage (Some (shown_coverage found)) plan (Some limits) None text

-- this is found of the runs of the table, it is written, and these words are said of their share
pub record IsCoverTold (medium : Medium) (least : Option ℕ) (files : CoverFiles) (text : List ℕ) (reason : Option (List ℕ))
    : Type 0 where
  pub found : RunsFound
  pub covered : IsCovered files found
  pub written : WritesFound medium files.plan files.limits found text
  pub said : reason ≡ share_words (found_share found) least

-- the line of a table that is refused so, as `load` writes it, and the words that say why
pub record IsUnreadTable (fault : TableFault) (text : List ℕ) (reason : Option (List ℕ)) : Type 0 where
  pub written : text ≡ refusal_line (table_detail fault)
  pub words : List ℕ
  pub said : reason ≡ Some words
  pub line : IsOneLine words

-- the plan is accepted, and the table is refused, and it is told how
pub record IsRefusedTable (files : CoverFiles) (text : List ℕ) (reason : Option (List ℕ)) : Type 0 where
  pub fault : TableFault
  pub refused : IsTableRefused files fault
  pub tells : IsUnreadTable fault text reason

-- what is said of a table with too many runs
abbrev pub long_table_words : List ℕ
long_table_words =
    codes "there are more than " ++ (number most_records ++ codes " runs; split them by employee into several tables")

-- the line of a table with too many runs, as `load` writes it, and what helps
pub record IsLongTable (text : List ℕ) (reason : Option (List ℕ)) : Type 0 where
  pub written : text ≡ refusal_line (edit_detail edits.Records)
  pub said : reason ≡ Some long_table_words

-- the table has too many runs, and that is told
pub record IsFullTable (files : CoverFiles) (text : List ℕ) (reason : Option (List ℕ)) : Type 0 where
  pub many : HasManyRuns files
  pub tells : IsLongTable text reason

-- the bytes of three files
abbrev pub cover_files : (plan limits : NamedText) (table : List ℕ) → CoverFiles
cover_files plan limits table = record { plan = plan.bytes; limits = limits.bytes; table = table }

-- the plan or the table is refused, or the table has too many runs, and it is told how
abbrev pub IsUncovered : (plan limits : NamedText) (table : List ℕ) → List ℕ → Option (List ℕ) → Type 0
IsUncovered plan limits table text reason =
    ((r : PlanRefusal) × IsRefusedAs r plan limits text reason)
    ⊎ (IsRefusedTable (cover_files plan limits table) text reason ⊎ IsFullTable (cover_files plan limits table) text reason)

-- this is the answer on a plan, its range file and a table: to what the runs of the table came, or why that isn't told
abbrev pub IsCoverAnswer : Medium → Option ℕ → (plan limits : NamedText) (table : List ℕ) → List ℕ → Option (List ℕ) → Type 0
IsCoverAnswer medium least plan limits table text reason =
    IsCoverTold medium least (cover_files plan limits table) text reason ⊎ IsUncovered plan limits table text reason
