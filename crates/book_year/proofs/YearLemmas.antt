-- A year with its new records and what was computed for them.
use Rattle.std.proofs.Common.{◌≡◌, ℕ, ◌≤◌, List, [], ◌∷◌, ◌++◌, take, length, sym, subst, ◌∙◌, arith}
use Rattle.std.specs.Prelude.{Result, IfOk}
use Rattle.std.specs.List.{AllByRecursion}
use Rattle.std.specs.Borrow.{Bor}
use Rattle.rising_lists.specs.Keyed.{IsRising}
use Rattle.payroll_records.specs.declared.record.Record.{Record}
use Rattle.payroll_records.specs.Orders.{day_cmp}
use Rattle.plan_calendar.specs.Picking.{Entry, pick}
use Rattle.book_year.specs.Accepted.{Accepted}
use Rattle.book_year.specs.declared.year.Year.{Year}
use Rattle.book_year.specs.declared.year.YearKey.{YearKey}
use Rattle.book_year.specs.declared.chain.Rest.{Rest}
use Rattle.book_year.specs.declared.outcome.Outcome.{Outcome}
use Rattle.book_year.specs.Records.{record_day, records_of}
use Rattle.book_year.specs.Rows.{year_rows}
use Rattle.book_year.specs.Jobs.{new_jobs, total_cost, Counts}
use Rattle.book_year.specs.Kept.{IsBounded, job_by}
use Rattle.book_year.specs.Years.{IsOwn}
use Rattle.book_year.specs.YearClauses.{IsYearEdit, edit_cost}
use Rattle.book_year.specs.private.YearClauses.{IsComputed}
use Rattle.book_year.specs.private.ChainClauses.{IsRest}
use Rattle.book_year.proofs.DayLemmas.{year_few, IsIn}

own_days : (key : YearKey) (rs : List Record) → AllByRecursion (IsOwn key) rs → AllByRecursion (IsIn key.year) rs
own_days key [] h = tt
own_days key (r ∷ rs) h = (h.0.year, own_days key rs h.1)

-- a year has at most 366 runs
pub own_few : (key : YearKey) (rs : List Record) → IsRising day_cmp record_day rs → AllByRecursion (IsOwn key) rs → length rs ≤ 366
own_few key rs rising own = year_few key.year rs rising (own_days key rs own)

pub year_edit : (plans : List (Entry Accepted)) (old new : Year) (records : List Record) (rest : Rest) → IsRising day_cmp record_day records → AllByRecursion (IsOwn old.key) records →
    new.key ≡ old.key → new.records.items ≡ records → new.outcomes.items ≡ take rest.kept old.outcomes.items ++ rest.outcomes.items → IsComputed plans old records rest →
    IsYearEdit plans old new records rest.work
year_edit plans old new records rest rising own key are outcomes is =
    let few = own_few old.key records rising own in
    record {
      key = key;
      records_are = are;
      year = record {
        kept = record {
          are = rw are (outcomes ∙ is.outcomes);
          bounded = subst (λ os. AllByRecursion IsBounded os) (sym outcomes) is.bounded;
          rising = rw are rising;
          few = rw are few;
        };
        own = rw (are, key) own;
      };
      work_is = is.work;
      few = omega (arith, is.few);
      cheap = omega (arith, is.cheap);
    }

-- the year computed with these records, from what the walk along references to them gives
module _ {E : Type 0} (plans : List (Entry Accepted)) (year : Year) (old : List Record) (items : List (Bor Record)) (records : List Record) (r : Result Rest E) (same : old ≡ year.records.items) (are : records_of items ≡ records) where
  pub computed_done : (was : List Outcome) → was ≡ year.outcomes.items → IfOk r (IsRest (pick plans) (job_by (pick plans) old) (records_of items) was) → IfOk r (IsComputed plans year records)
  computed_done was stay h =
      subst (λ t. IfOk r (IsRest (pick plans) (job_by (pick plans) year.records.items) records t)) stay
      (subst (λ t. IfOk r (IsRest (pick plans) (job_by (pick plans) t) records was)) same
      (subst (λ t. IfOk r (IsRest (pick plans) (job_by (pick plans) old) t was)) are h))

  pub computed_counted : (began now : ℕ) → Counts r began now (total_cost (new_jobs (job_by (pick plans) old) (year_rows (pick plans) (records_of items)))) → Counts r began now (edit_cost plans year records)
  computed_counted began now h =
      subst (λ t. Counts r began now (total_cost (new_jobs (job_by (pick plans) t) (year_rows (pick plans) records)))) same
      (subst (λ t. Counts r began now (total_cost (new_jobs (job_by (pick plans) old) (year_rows (pick plans) t)))) are h)
