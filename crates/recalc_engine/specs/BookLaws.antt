-- What holds of every book, and what follows from it.
use Rattle.std.specs.Prelude.{◌≡◌, ◌≤◌, List, [], length, Option, Some, None, All}
use Rattle.std.specs.List.{AllByRecursion, flat_map}
use Rattle.std.specs.Option.{option_map}
use Rattle.rising_lists.specs.Keyed.{at_key, IsRising}
use Rattle.payroll_records.specs.declared.record.Key.{Key}
use Rattle.payroll_records.specs.declared.record.Record.{Record}
use Rattle.payroll_records.specs.Orders.{key_cmp}
use Rattle.payroll_records.specs.Tables.{HaveOwnKeys}
use Rattle.plan_calendar.specs.Picking.{AreEntries, Entry, day_of, entry_at, plan_of}
use Rattle.pap_plan.specs.Acceptance.{IsAccepted}
use Rattle.pap_plan.specs.AcceptanceLaws.{RunsToItsEnd}
use Rattle.pay_run.specs.Runs.{IsKeptValue, run_outputs}
use Rattle.book_year.specs.Accepted.{Accepted}
use Rattle.book_year.specs.Jobs.{new_job}
use Rattle.book_year.specs.declared.outcome.State.TheVariants as state
use Rattle.book_year.specs.Rows.{Job, Row}
use Rattle.book_year.specs.Years.{IsOwn}
use Rattle.book_edits.specs.Books.{AreInOrder, YearRuns, run_count, year_of}
use Rattle.book_edits.specs.Refusals.{most_records}
use Rattle.recalc_engine.specs.Contents.{Contents, book_of, jobs_between, row_at}
use Rattle.recalc_engine.specs.EditAnswers.{edited_book, put}
use Rattle.recalc_engine.specs.Jobs.{job_of_key}
use Rattle.recalc_engine.specs.MonthRows.{KeyedRow, keyed_row, month_rows}

-- the plan's texts are accepted, with what it means
abbrev pub IsAcceptedPlan : Accepted → Type 0
IsAcceptedPlan p = IsAccepted p.plan p.limits p.meaning

-- each plan of a calendar has accepted texts, with what they mean
abbrev pub AreAcceptedPlans : List (Entry Accepted) → Type 0
AreAcceptedPlans es = AllByRecursion (λ (e : Entry Accepted). IsAcceptedPlan (plan_of e)) es

-- each run of the year is its employee's, in its calendar year
abbrev pub HasOwnRuns : YearRuns → Type 0
HasOwnRuns y = AllByRecursion (IsOwn y.key) y.runs

-- the years stand in order, each with a run and all runs its own, 50,000 at most; at most 64 plans, their days rise
pub record IsBook (book : Contents) : Type 0 where
  pub order : AreInOrder book.years
  pub own : AllByRecursion HasOwnRuns book.years
  pub few : run_count book.years ≤ most_records
  pub entries : AreEntries book.plans
  pub plans : AreAcceptedPlans book.plans

-- ---- laws: the rows of a book

-- the employee and the day of a row
abbrev pub row_key : KeyedRow → Key
row_key row = row.key

-- the keys of the rows rise, by employee and then by day
abbrev pub RowsRise : Type 0
RowsRise = (book : Contents) → IsBook book → IsRising key_cmp row_key (month_rows book)

-- there is a row for each run
abbrev pub RowsAreCounted : Type 0
RowsAreCounted = (book : Contents) → length (month_rows book) ≡ run_count book.years

-- the row of a key is its run, computed anew
abbrev pub RowsAreRuns : Type 0
RowsAreRuns =
    (book : Contents) (k : Key) → IsBook book
    → at_key key_cmp row_key (month_rows book) k
    ≡ option_map (keyed_row (year_of k)) (row_at book k)

-- ---- laws: a book and its parts

-- the runs of a book, one after another
abbrev pub runs_listed : Contents → List Record
runs_listed book = flat_map (λ y. y.runs) book.years

-- a book is the book of its runs, its plans and its last work
abbrev pub BooksAreTheirParts : Type 0
BooksAreTheirParts =
    (book : Contents) → IsBook book → book_of (runs_listed book) book.plans book.last ≡ book

-- no two runs of a book have one key
abbrev pub RunsAreDistinct : Type 0
RunsAreDistinct = (book : Contents) → IsBook book → HaveOwnKeys (runs_listed book)

-- ---- laws: plans and jobs

-- the texts of the plan that stands at the day are these
abbrev pub HasTexts : Option (Entry Accepted) → Accepted → Type 0
HasTexts None p = ⊥
HasTexts (Some e) p = ((plan_of e).plan ≡ p.plan) × ((plan_of e).limits ≡ p.limits)

-- the book as it is, but that its last edit made no job new
abbrev pub idle : Contents → Contents
idle book = record { years = book.years; plans = book.plans; last = record { runs = 0; steps = 0 } }

-- the plan put makes no job new, and leaves the book as it is
pub record PutsTheSame (book : Contents) (e : Entry Accepted) : Type 0 where
  pub jobs : jobs_between book (edited_book (put e) book) ≡ []
  pub book_is : edited_book (put e) book ≡ idle book

-- a plan put in place of one with its texts makes no job new, and leaves the book as it is
abbrev pub SameTextsChangeNothing : Type 0
SameTextsChangeNothing =
    (book : Contents) (e : Entry Accepted) → IsBook book → IsAcceptedPlan (plan_of e)
    → HasTexts (entry_at book.plans (day_of e)) (plan_of e) → PutsTheSame book e

-- the job of a key in the new book, where it isn't the job of that key in the old one
abbrev pub new_job_at : Contents → Contents → Key → List Job
new_job_at old new k = new_job (job_of_key old k) (job_of_key new k)

-- the new jobs of a book are those of its keys, in their order
abbrev pub NewJobsAreByKey : Type 0
NewJobsAreByKey =
    (old new : Contents) → IsBook new
    → jobs_between old new ≡ flat_map (λ row. new_job_at old new (row_key row)) (month_rows new)

-- the run is done, with the outputs of the job
abbrev pub IsDoneBy : Job → Option Row → Type 0
IsDoneBy j None = ⊥
IsDoneBy j (Some row) = row.state ≡ state.Done (run_outputs j.plan j.inputs)

-- a run that has a job is done, with the outputs of that job
abbrev pub JobsAreDone : Type 0
JobsAreDone =
    (book : Contents) (k : Key) (j : Job) → job_of_key book k ≡ Some j → IsDoneBy j (row_at book k)

-- each value of the run is a decimal that 128 bits keep
abbrev pub HasKeptValues : Record → Type 0
HasKeptValues r = All IsKeptValue r.values

-- each value of each run of the book is a decimal that 128 bits keep
abbrev pub HaveKeptValues : Contents → Type 0
HaveKeptValues book = AllByRecursion HasKeptValues (runs_listed book)

-- the plan of the job is accepted, and its run on the job's inputs gets to its end: so it has outputs
pub record IsSafeJob (j : Job) : Type 0 where
  pub plan : IsAcceptedPlan j.plan
  pub runs : RunsToItsEnd j.plan.meaning j.inputs

-- each job of a book whose values are kept is safe
abbrev pub JobsAreSafe : Type 0
JobsAreSafe =
    (book : Contents) (k : Key) (j : Job) → IsBook book → HaveKeptValues book
    → job_of_key book k ≡ Some j → IsSafeJob j
