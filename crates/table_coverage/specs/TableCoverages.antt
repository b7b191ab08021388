-- To which statements and exits of a flowchart the runs of a table came.
use Rattle.std.specs.Prelude.{◌≡◌, ◌<◌, ℕ, List, [], ◌∷◌, length, map, ⊤}
use Rattle.std.specs.BTreeSet.{BTreeSet}
use Rattle.pap_tree.specs.Flowchart.{Flowchart}
use Rattle.interval_analysis.specs.Surveys.{StatementPlace, AreReached}
use Rattle.pap_plan.specs.Acceptance.{Meaning, IsAccepted, IsRefused}
use Rattle.payroll_records.specs.declared.day.Day.{Day}
use Rattle.payroll_records.specs.declared.record.Record.{Record}
use Rattle.payroll_records.specs.declared.table.TableFault.{TableFault}
use Rattle.payroll_records.specs.Limits.{most_records}
use Rattle.payroll_records.specs.Tables.{IsTable, IsTableFault}
use Rattle.book_year.specs.Accepted.{Accepted}
use Rattle.book_edits.specs.Books.{loaded}
use Rattle.recalc_engine.specs.Contents.{Contents}
use Rattle.recalc_engine.specs.MonthRows.{month_rows}
use Rattle.open_runs.specs.OpenRuns.{counted_of}
use Rattle.statement_list.specs.Statements.{listed_methods}
use Rattle.plan_notes.specs.declared.notes.Notes.{Notes}
use Rattle.plan_notes.specs.Notes.{HasNotes}
use Rattle.source_lines.specs.Lines.{lines_of_file}
use Rattle.run_coverage.specs.Coverage.{coverage_of}
use Rattle.run_coverage.specs.CoveredRuns.{book_traces}
use Rattle.coverage_text.specs.CoverageItems.{CoveredMethod, method_counts, share_reached}
use Rattle.coverage_text.specs.CoverageTexts.{coverage_text}
use Rattle.coverage_text.specs.FlowchartItems.{KnownPlaces, flowchart_items}
use Rattle.flowchart_methods.specs.Marks.{Marked}
use Rattle.coverage_page.specs.CoverageMarks.{coverage_marks}
use Rattle.coverage_page.specs.CoverageParts.{coverage_part}
use Rattle.table_coverage.specs.declared.refusal.CoverRefusal.{CoverRefusal}
use Rattle.table_coverage.specs.declared.refusal.CoverRefusal.TheVariants as refusals

-- ---- the book of a table

-- the year of the first of some runs; without runs 1900
abbrev pub first_year : List Record → ℕ
first_year [] = 1900
first_year (r ∷ rs) = r.day.year

-- the first day of that year
pub record IsFirstDay (runs : List Record) (date : Day) : Type 0 where
  pub year : date.year ≡ first_year runs
  pub month : date.month ≡ 1
  pub day : date.day ≡ 1

-- the book has these runs, and this plan alone, from the first day of the first run's year on
pub record IsBookOf (p : Accepted) (runs : List Record) (book : Contents) : Type 0 where
  pub day : Day
  pub first : IsFirstDay runs day
  pub plans : book.plans ≡ (day, p) ∷ []
  pub years : book.years ≡ loaded runs []

-- ---- what is told of it

-- how many statements each method has, MAIN first
abbrev pub statement_counts : Flowchart → List ℕ
statement_counts f = map length (listed_methods f)

-- the statements and exits of a flowchart, each with how many runs of a book came there
abbrev pub book_items : Flowchart → KnownPlaces → Contents → List CoveredMethod
book_items f known book = flowchart_items f known (coverage_of f (statement_counts f) (book_traces book))

-- what is found of runs: the statements and exits of their flowchart by method, each with how many runs came there, and how many of
-- so many runs have no amounts
pub record RunsFound : Type 0 where
  pub methods : List CoveredMethod
  pub without : ℕ
  pub runs : ℕ

-- these statements and exits, with how many runs of a book have no amounts
abbrev pub found_with : List CoveredMethod → Contents → RunsFound
found_with methods book = record {
  methods = methods;
  without = (counted_of (month_rows book)).without;
  runs = (counted_of (month_rows book)).runs;
}

-- that as a text
abbrev pub found_text : RunsFound → List ℕ
found_text found = coverage_text found.methods found.without found.runs

-- the share of what runs may come to that they came to, in whole percent
abbrev pub found_share : RunsFound → ℕ
found_share found = share_reached (method_counts found.methods)

-- that as the part of a page that stands above the drawings
abbrev pub found_part : RunsFound → List ℕ
found_part found = coverage_part found.methods found.without found.runs

-- how many runs came to each statement, as the drawings show it
abbrev pub found_marks : RunsFound → List (List Marked)
found_marks found = coverage_marks found.methods

-- what is known of a flowchart's places: the lines of its file, and the statements to which a run may come
abbrev pub places_in : List ℕ → Notes → BTreeSet StatementPlace → KnownPlaces
places_in file notes reached = record { lines = lines_of_file file notes.marks.items; reached = reached }

-- this is found of the runs of a book, with the lines of the flowchart's file, where these are the statements to which a run may come
pub record TellsCoverage (file : List ℕ) (f : Flowchart) (reached : BTreeSet StatementPlace) (book : Contents) (found : RunsFound)
    : Type 0 where
  pub notes : Notes
  pub noted : HasNotes file notes
  pub tells : found ≡ found_with (book_items f (places_in file notes reached) book) book

-- ---- the answer

-- a plan's file, a range file and a table
pub record CoverFiles : Type 0 where
  pub plan : List ℕ
  pub limits : List ℕ
  pub table : List ℕ

-- the plan is accepted, and the table has these runs
pub record HasTableRuns (files : CoverFiles) (m : Meaning) (runs : List Record) : Type 0 where
  pub accepted : IsAccepted files.plan files.limits m
  pub read : IsTable files.table runs

-- the plan as a book has it
abbrev pub accepted_plan : CoverFiles → Meaning → Accepted
accepted_plan files m = record { plan = files.plan; limits = files.limits; meaning = m }

-- The plan is accepted, and the table read; this is found of its runs, of the statements to which a run within the ranges may come.
pub record IsCovered (files : CoverFiles) (found : RunsFound) : Type 0 where
  pub meaning : Meaning
  pub runs : List Record
  pub has : HasTableRuns files meaning runs
  pub book : Contents
  pub held : IsBookOf (accepted_plan files meaning) runs book
  pub reached : BTreeSet StatementPlace
  pub are_reached : AreReached meaning.flowchart meaning.limits reached
  pub told : TellsCoverage files.plan meaning.flowchart reached book found

-- the plan is accepted, and the table refused so
pub record IsTableRefused (files : CoverFiles) (fault : TableFault) : Type 0 where
  pub meaning : Meaning
  pub accepted : IsAccepted files.plan files.limits meaning
  pub refused : IsTableFault files.table fault

-- the plan is accepted, the table read, and it has more runs than a book
pub record HasManyRuns (files : CoverFiles) : Type 0 where
  pub meaning : Meaning
  pub runs : List Record
  pub has : HasTableRuns files meaning runs
  pub many : most_records < length runs

-- why nothing is told: the plan is refused, then the table, then its number of runs; or memory ran out, which may be at any files
abbrev pub IsCoverRefused : CoverFiles → CoverRefusal → Type 0
IsCoverRefused files (refusals.Plan why) = IsRefused files.plan files.limits why
IsCoverRefused files (refusals.Table fault) = IsTableRefused files fault
IsCoverRefused files refusals.Records = HasManyRuns files
IsCoverRefused files (refusals.Memory e) = ⊤
