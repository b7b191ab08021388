-- What is kept of the runs of years is what computing them anew gives.
use Rattle.std.proofs.Common.{◌≡◌, List, [], ◌∷◌, ◌++◌, map, length, Option, Some, None, refl, sym, ap, ◌∙◌, arith}
use Rattle.std.specs.Prelude.{MatchOption}
use Rattle.std.specs.Iterator.{YieldsFirstBy}
use Rattle.std.specs.List.{AllByRecursion, flat_map}
use Rattle.std.proofs.lemmas.List.{length-map}
use Rattle.payroll_records.specs.declared.record.Record.{Record}
use Rattle.carry_bindings.specs.declared.carried.Earlier.{Earlier}
use Rattle.plan_calendar.specs.Picking.{Entry, pick}
use Rattle.book_year.specs.Accepted.{Accepted}
use Rattle.book_year.specs.declared.outcome.Outcome.{Outcome}
use Rattle.book_year.specs.declared.year.Year.{Year}
use Rattle.book_year.specs.declared.year.YearKey.{YearKey}
use Rattle.book_year.specs.Rows.{Planned, row_of, rows, year_rows}
use Rattle.book_year.specs.Kept.{AreKept, kept}
use Rattle.book_year.specs.Years.{IsOwn, IsYear}
use Rattle.book_year.proofs.Laws.{row_of_day, rows_length}
use Rattle.book_edits.specs.Kept.{HasRuns, runs_in, runs_in_year}
use Rattle.recalc_engine.specs.declared.months.MonthRow.{MonthRow}
use Rattle.recalc_engine.specs.MonthRows.{KeyedRow, keyed_row, keyed_rows}
use Rattle.recalc_engine.specs.KeptRows.{kept_row, kept_rows, rows_kept, rows_kept_in, ArePaired, IsPaired}
use Rattle.recalc_engine.specs.LentRows.{lent_row}
use Rattle.recalc_engine.proofs.RowLemmas.{next}

own_row : (k : YearKey) (o : Option (Entry Accepted)) (earlier : List Earlier) (r : Record) → IsOwn k r → kept_row r (kept (row_of o earlier r)) ≡ keyed_row k (row_of o earlier r)
own_row k o earlier r own = λ i.
    record {
      key = record { employee = own.employee i; day = sym (row_of_day o earlier r) i };
      plan = (row_of o earlier r).plan;
      state = (row_of o earlier r).state;
    }

kept_are : (k : YearKey) (planned : Planned) (earlier : List Earlier) (rs : List Record) → AllByRecursion (IsOwn k) rs → kept_rows rs (map kept (rows planned earlier rs)) ≡ map (keyed_row k) (rows planned earlier rs)
kept_are k planned earlier [] own = refl
kept_are k planned earlier (r ∷ rs) own = λ i. own_row k (planned r.day) earlier r own.0 i ∷ kept_are k planned (next planned earlier r) rs own.1 i

-- a year that is kept where these are the plans of the days
pub year_kept_by : (planned : Planned) (y : Year) → AllByRecursion (IsOwn y.key) y.records.items →
    AreKept planned y.records.items y.outcomes.items → rows_kept_in y ≡ keyed_rows planned (runs_in_year y)
year_kept_by planned y own h = ap (kept_rows y.records.items) h.are ∙ kept_are y.key planned [] y.records.items own

year_kept : (plans : List (Entry Accepted)) (y : Year) → IsYear plans y → rows_kept_in y ≡ keyed_rows (pick plans) (runs_in_year y)
year_kept plans y h = year_kept_by (pick plans) y h.own h.kept

pub years_kept : (plans : List (Entry Accepted)) (ys : List Year) → AllByRecursion (IsYear plans) ys → rows_kept ys ≡ flat_map (keyed_rows (pick plans)) (runs_in ys)
years_kept plans [] each = refl
years_kept plans (y ∷ ys) each = λ i. year_kept plans y each.0 i ++ years_kept plans ys each.1 i

pub year_paired : (plans : List (Entry Accepted)) (y : Year) → IsYear plans y → length y.records.items ≡ length y.outcomes.items
year_paired plans y h =
    let rs = y.records.items in
    omega (arith, ap length h.kept.are, length-map (year_rows (pick plans) rs) kept, rows_length (pick plans) [] rs)

pub years_paired : (plans : List (Entry Accepted)) (ys : List Year) → AllByRecursion (IsYear plans) ys → AllByRecursion HasRuns ys → ArePaired ys
years_paired plans [] each some = tt
years_paired plans (y ∷ ys) each some = (record { some = some.0; paired = year_paired plans y each.0 }, years_paired plans ys each.1 some.1)

-- ---- the iterators

no_runs : (rs : List Record) (os : List Outcome) → length rs ≡ length os → kept_rows rs os ≡ [] → length rs ≡ 0
no_runs [] os e h = refl
no_runs (r ∷ rs) [] e h = e
no_runs (r ∷ rs) (o ∷ os) e h = absurd (omega (arith, ap length h))

-- a run taken off the front
pub row_taken : (rs rs' : List Record) (os os' : List Outcome) (r : Record) (o : Outcome) → rs ≡ r ∷ rs' → os ≡ o ∷ os' → kept_rows rs os ≡ kept_row r o ∷ kept_rows rs' os'
row_taken rs rs' os os' r o e f = λ i. kept_rows (e i) (f i)

-- the year that is begun has a run more
pub more_of_year : (begun begun' more : List KeyedRow) (row : KeyedRow) → begun ≡ row ∷ begun' → begun ++ more ≡ row ∷ (begun' ++ more)
more_of_year begun begun' more row e = ap (λ t. t ++ more) e

-- the next year is begun
pub next_year : (years years' : List Year) (y : Year) (r : Option MonthRow) (begun : List KeyedRow) → years ≡ y ∷ years' → IsPaired y → YieldsFirstBy lent_row (λ t. t) (rows_kept_in y) r begun →
    MatchOption r ((rows_kept years ≡ []) × (begun ++ rows_kept years' ≡ [])) (λ row. rows_kept years ≡ lent_row row ∷ (begun ++ rows_kept years'))
next_year years years' y None begun e p h = absurd (omega (arith, p.some, no_runs y.records.items y.outcomes.items p.paired h.0))
next_year years years' y (Some row) begun e p h = ap rows_kept e ∙ ap (λ t. t ++ rows_kept years') h
