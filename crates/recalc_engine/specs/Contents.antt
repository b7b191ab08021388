-- A book: its runs, its plans and the work of its last edit. What its runs came to follows from these.
use Rattle.std.specs.Prelude.{ℕ, List, [], Option}
use Rattle.rising_lists.specs.Keyed.{at_key}
use Rattle.payroll_records.specs.declared.record.Key.{Key}
use Rattle.payroll_records.specs.declared.record.Record.{Record}
use Rattle.payroll_records.specs.Orders.{day_cmp}
use Rattle.plan_calendar.specs.Picking.{Entry, pick}
use Rattle.book_year.specs.Accepted.{Accepted}
use Rattle.book_year.specs.declared.outcome.Work.{Work}
use Rattle.book_year.specs.Jobs.{total_cost, work_of}
use Rattle.book_year.specs.Rows.{Job, Row, year_rows}
use Rattle.book_edits.specs.Books.{YearRuns, loaded, runs_of, year_of}
use Rattle.book_edits.specs.Kept.{jobs_in}

-- a book: its runs year by year, its plans by day, and the work of its last edit
pub record Contents : Type 0 where
  pub years : List YearRuns
  pub plans : List (Entry Accepted)
  pub last : Work

-- the run of a key, computed anew
abbrev pub row_at : Contents → Key → Option Row
row_at book k =
    let runs = runs_of book.years (year_of k) in
    at_key day_cmp (λ row. row.day) (year_rows (pick book.plans) runs) k.day

-- the runs of the new book whose job isn't their job in the old one
abbrev pub jobs_between : Contents → Contents → List Job
jobs_between old new = jobs_in (pick old.plans) (pick new.plans) old.years new.years

-- the book with other runs
abbrev pub with_years : List YearRuns → Contents → Contents
with_years years book = record { years = years; plans = book.plans; last = book.last }

-- the book with other plans
abbrev pub with_plans : List (Entry Accepted) → Contents → Contents
with_plans plans book = record { years = book.years; plans = plans; last = book.last }

-- the book of these runs, with these plans and this last work
abbrev pub book_of : List Record → List (Entry Accepted) → Work → Contents
book_of runs plans last = record { years = loaded runs []; plans = plans; last = last }

-- the book without its runs: against it, all jobs of the book are new
abbrev pub without_runs : Contents → Contents
without_runs book = with_years [] book

-- the steps of the jobs that are new in the second book
abbrev pub cost_between : Contents → Contents → ℕ
cost_between old new = total_cost (jobs_between old new)

-- the cost of all jobs of a book
abbrev pub whole_cost : Contents → ℕ
whole_cost book = cost_between (without_runs book) book

-- the work of a book: how many jobs it has, and their cost
abbrev pub whole_work : Contents → Work
whole_work book = work_of (jobs_between (without_runs book) book)
