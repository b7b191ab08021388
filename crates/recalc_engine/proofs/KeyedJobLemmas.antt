-- The new jobs of a book, key by key.
use Rattle.std.proofs.Common.{◌≡◌, List, [], ◌∷◌, ◌++◌, map, Some, refl, sym, ap, ◌∙◌}
use Rattle.std.specs.List.{AllByRecursion, flat_map}
use Rattle.std.specs.Option.{option_and_then}
use Rattle.std.proofs.lemmas.Grind.{flat_map-append}
use Rattle.rising_lists.specs.Keyed.{at_key, IsRising}
use Rattle.payroll_records.specs.declared.day.Day.{Day}
use Rattle.payroll_records.specs.declared.record.Key.{Key}
use Rattle.payroll_records.specs.declared.record.Record.{Record}
use Rattle.payroll_records.specs.Orders.{day_cmp}
use Rattle.payroll_records.proofs.Laws.{day_total}
use Rattle.plan_calendar.specs.Picking.{pick}
use Rattle.book_year.specs.declared.year.YearKey.{YearKey}
use Rattle.book_year.specs.Jobs.{new_job, new_jobs}
use Rattle.book_year.specs.Kept.{job_by}
use Rattle.book_year.specs.Records.{record_day}
use Rattle.book_year.specs.Rows.{Job, Row, year_rows}
use Rattle.book_year.proofs.Laws.{rows_rising}
use Rattle.book_edits.specs.Books.{YearRuns, runs_key, runs_of, runs_or_none, year_cmp}
use Rattle.book_edits.specs.Kept.{jobs_in}
use Rattle.book_edits.proofs.Laws.{found_each, year_total}
use Rattle.recalc_engine.specs.BookLaws.{HasOwnRuns, NewJobsAreByKey, new_job_at, row_key}
use Rattle.recalc_engine.specs.Contents.{Contents}
use Rattle.recalc_engine.specs.Jobs.{job_of_key}
use Rattle.recalc_engine.specs.MonthRows.{KeyedRow, keyed_row, keyed_rows}
use Rattle.recalc_engine.proofs.BookLemmas.{IsIn, rows_in}
use Rattle.recalc_engine.proofs.RowLemmas.{row_day}

-- the key of an employee's day
abbrev key_on : YearKey → Day → Key
key_on k d = record { employee = k.employee; day = d }

-- the job of a key is that of its day in its year
job_on : (book : Contents) (k : YearKey) (d : Day) → d.year ≡ k.year →
    job_of_key book (key_on k d) ≡ job_by (pick book.plans) (runs_of book.years k) d
job_on book k d e = λ i. job_by (pick book.plans) (runs_of book.years (record { employee = k.employee; year = e i })) d

module _ (old new : Contents) where
  abbrev job_at_row : KeyedRow → List Job
  job_at_row row = new_job_at old new (row_key row)

  -- the new jobs of some runs of a year
  module _ (k : YearKey) (rs : List Record) (runs : runs_of new.years k ≡ rs) where
    abbrev IsFound : Row → Type 0
    IsFound row = at_key day_cmp row_day (year_rows (pick new.plans) rs) (row_day row) ≡ Some row

    by_row : (row : Row) → row.day.year ≡ k.year → IsFound row →
        new_job (job_by (pick old.plans) (runs_of old.years k) row.day) row.job ≡ job_at_row (keyed_row k row)
    by_row row e found =
        let was = job_on old k row.day e in
        let is = job_on new k row.day e ∙ ap (λ t. job_by (pick new.plans) t row.day) runs
        ∙ ap (option_and_then (λ (x : Row). x.job)) found in
        sym (λ i. new_job (was i) (is i))

    by_rows : (rows : List Row) → AllByRecursion (λ row. IsIn k (row_key row)) (map (keyed_row k) rows) →
        AllByRecursion IsFound rows →
        new_jobs (job_by (pick old.plans) (runs_of old.years k)) rows ≡ flat_map job_at_row (map (keyed_row k) rows)
    by_rows [] own found = refl
    by_rows (row ∷ rows) own found = λ i. by_row row own.0.year found.0 i ++ by_rows rows own.1 found.1 i

  by_year : (y : YearRuns) → HasOwnRuns y → IsRising day_cmp record_day y.runs →
      at_key year_cmp runs_key new.years y.key ≡ Some y →
      new_jobs (job_by (pick old.plans) (runs_of old.years y.key)) (year_rows (pick new.plans) y.runs)
      ≡ flat_map job_at_row (keyed_rows (pick new.plans) y)
  by_year y own days found =
      let rows = year_rows (pick new.plans) y.runs in
      by_rows y.key y.runs (ap runs_or_none found) rows (rows_in y.key (pick new.plans) [] y.runs own)
      (found_each day_cmp day_total row_day rows (rows_rising (pick new.plans) [] y.runs days))

  by_years : (ys : List YearRuns) → AllByRecursion HasOwnRuns ys →
      AllByRecursion (λ y. IsRising day_cmp record_day y.runs) ys →
      AllByRecursion (λ y. at_key year_cmp runs_key new.years y.key ≡ Some y) ys →
      jobs_in (pick old.plans) (pick new.plans) old.years ys
      ≡ flat_map job_at_row (flat_map (keyed_rows (pick new.plans)) ys)
  by_years [] own days found = refl
  by_years (y ∷ ys) own days found =
      (λ i. by_year y own.0 days.0 found.0 i ++ by_years ys own.1 days.1 found.1 i)
      ∙ sym (flat_map-append job_at_row (keyed_rows (pick new.plans) y) (flat_map (keyed_rows (pick new.plans)) ys))

pub jobs_by_key : NewJobsAreByKey
jobs_by_key old new h =
    by_years old new new.years h.own h.order.days
    (found_each year_cmp year_total runs_key new.years h.order.rising)
