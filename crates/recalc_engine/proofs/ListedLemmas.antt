-- A book is the book of its runs, put one after another.
use Rattle.std.proofs.Common.{◌≡◌, ◌<◌, List, [], ◌∷◌, ◌++◌, length, map, Option, Some, None, if◌then◌else◌, refl, sym, ap, subst, ◌∙◌, arith}
use Rattle.std.specs.List.{AllByRecursion, flat_map}
use Rattle.std.specs.declared.cmp.Ordering.{Ordering}
use Rattle.std.specs.declared.cmp.Ordering.TheVariants.{Less, Equal, Greater}
use Rattle.std.specs.Ordering.{is_eq, ordering_reverse}
use Rattle.std.specs.Cmp.{IsTotalOrder}
use Rattle.std.proofs.lemmas.Cmp.{tied_itself}
use Rattle.std.proofs.lemmas.List.{append-nil, append_assoc, map-append}
use Rattle.rising_lists.specs.Keyed.{at_key, put, put_by, AreAbove, IsRising}
use Rattle.payroll_records.specs.declared.record.Record.{Record}
use Rattle.payroll_records.specs.declared.record.Key.{Key}
use Rattle.payroll_records.specs.Orders.{day_cmp, key_cmp}
use Rattle.payroll_records.specs.Tables.{key_of}
use Rattle.payroll_records.proofs.Laws.{day_total, own_rising}
use Rattle.plan_calendar.specs.Picking.{Entry, pick}
use Rattle.carry_bindings.specs.declared.carried.Earlier.{Earlier}
use Rattle.book_year.specs.Accepted.{Accepted}
use Rattle.book_year.specs.declared.year.YearKey.{YearKey}
use Rattle.book_year.specs.Records.{put_run, record_day}
use Rattle.book_year.specs.Rows.{Planned, row_of, rows}
use Rattle.book_year.specs.Years.{IsOwn}
use Rattle.book_year.proofs.Laws.{row_of_day}
use Rattle.book_edits.specs.Books.{YearRuns, added, loaded, runs_key, runs_of, runs_or_none, with_runs, year_cmp, year_of}
use Rattle.book_edits.proofs.Laws.{map_rising, rising_map, year_total}
use Rattle.recalc_engine.specs.BookLaws.{BooksAreTheirParts, HasOwnRuns, IsBook, RunsAreDistinct, row_key, runs_listed}
use Rattle.recalc_engine.specs.Contents.{Contents}
use Rattle.recalc_engine.specs.MonthRows.{keyed_row, keyed_rows, month_rows}
use Rattle.recalc_engine.proofs.BookLemmas.{book_rows_rise}
use Rattle.recalc_engine.proofs.RowLemmas.{next}

-- ---- elements put behind all others

module _ {K X : Type 0} (cmp : K → K → Ordering) (total : IsTotalOrder cmp) (key : X → K) where
  abbrev pub AllBelow : K → List X → Type 0
  AllBelow k xs = AllByRecursion (λ x. cmp (key x) k ≡ Less) xs

  back : (y x : X) → cmp (key x) (key y) ≡ Less → cmp (key y) (key x) ≡ Greater
  back y x l = total.antisymm (key y) (key x) ∙ ap ordering_reverse l

  pub put_end : (y : X) (xs : List X) → AllBelow (key y) xs → put cmp key y xs ≡ xs ++ y ∷ []
  put_end y [] h = refl
  put_end y (x ∷ xs) h =
      ap (λ o. put_by o y x xs (put cmp key y xs)) (back y x h.0) ∙ ap (λ t. x ∷ t) (put_end y xs h.1)

  put_over : (y z : X) (xs : List X) → AllBelow (key y) xs → cmp (key y) (key z) ≡ Equal →
      put cmp key y (xs ++ z ∷ []) ≡ xs ++ y ∷ []
  put_over y z [] h e = ap (λ o. put_by o y z [] (y ∷ [])) e
  put_over y z (x ∷ xs) h e =
      ap (λ o. put_by o y x (xs ++ z ∷ []) (put cmp key y (xs ++ z ∷ []))) (back y x h.0)
      ∙ ap (λ t. x ∷ t) (put_over y z xs h.1 e)

  none_at_end : (xs : List X) (k : K) → AllBelow k xs → at_key cmp key xs k ≡ None
  none_at_end [] k h = refl
  none_at_end (x ∷ xs) k h =
      ap (λ o. if is_eq o then Some x else at_key cmp key xs k) h.0 ∙ none_at_end xs k h.1

  one_at_end : (xs : List X) (z : X) (k : K) → AllBelow k xs → cmp (key z) k ≡ Equal →
      at_key cmp key (xs ++ z ∷ []) k ≡ Some z
  one_at_end [] z k h e = ap (λ o. if is_eq o then Some z else None) e
  one_at_end (x ∷ xs) z k h e =
      ap (λ o. if is_eq o then Some x else at_key cmp key (xs ++ z ∷ []) k) h.0 ∙ one_at_end xs z k h.1 e

  above_here : (k : K) (xs : List X) (y : X) (ys : List X) → AreAbove cmp key k (xs ++ y ∷ ys) → cmp k (key y) ≡ Less
  above_here k [] y ys h = h.0
  above_here k (x ∷ xs) y ys h = above_here k xs y ys h.1

  -- what stands in front of an element of a rising list is below it
  pub front_below : (xs : List X) (y : X) (ys : List X) → IsRising cmp key (xs ++ y ∷ ys) → AllBelow (key y) xs
  front_below [] y ys h = tt
  front_below (x ∷ xs) y ys h = (above_here (key x) xs y ys h.0, front_below xs y ys h.1)

-- ---- one run more of the last year

with_some : (k : YearKey) (rs : List Record) (ys : List YearRuns) → 0 < length rs →
    with_runs k rs ys ≡ put year_cmp runs_key (record { key = k; runs = rs }) ys
with_some k [] ys h = absurd (omega (arith, h))
with_some k (r ∷ rs) ys h = refl

own_year : (k : YearKey) (r : Record) → IsOwn k r → year_of (key_of r) ≡ k
own_year k r own = λ i. record { employee = own.employee i; year = own.year i }

some_more : (rs : List Record) (r : Record) → 0 < length (rs ++ r ∷ [])
some_more [] r = omega arith
some_more (x ∷ rs) r = omega arith

first_run : (zs : List YearRuns) (k : YearKey) (r : Record) → IsOwn k r → AllBelow year_cmp year_total runs_key k zs →
    added r zs ≡ zs ++ record { key = k; runs = r ∷ [] } ∷ []
first_run zs k r own below =
    ap (λ (t : YearKey). with_runs t (put_run r (runs_of zs t)) zs) (own_year k r own)
    ∙ ap (λ (o : Option YearRuns). with_runs k (put_run r (runs_or_none o)) zs) (none_at_end year_cmp year_total runs_key zs k below)
    ∙ put_end year_cmp year_total runs_key (record { key = k; runs = r ∷ [] }) zs below

more_run : (zs : List YearRuns) (k : YearKey) (before : List Record) (r : Record) → IsOwn k r →
    AllBelow year_cmp year_total runs_key k zs → AllBelow day_cmp day_total record_day r.day before →
    added r (zs ++ record { key = k; runs = before } ∷ []) ≡ zs ++ record { key = k; runs = before ++ r ∷ [] } ∷ []
more_run zs k before r own below days =
    let y : YearRuns = record { key = k; runs = before } in
    let next : YearRuns = record { key = k; runs = before ++ r ∷ [] } in
    let ys = zs ++ y ∷ [] in
    ap (λ (t : YearKey). with_runs t (put_run r (runs_of ys t)) ys) (own_year k r own)
    ∙ ap (λ (o : Option YearRuns). with_runs k (put_run r (runs_or_none o)) ys)
    (one_at_end year_cmp year_total runs_key zs y k below (tied_itself year_total k))
    ∙ ap (λ rs. with_runs k rs ys) (put_end day_cmp day_total record_day r before days)
    ∙ with_some k (before ++ r ∷ []) ys (some_more before r)
    ∙ put_over year_cmp year_total runs_key next y zs below (tied_itself year_total k)

-- ---- all runs of a year, and of all years

rest_of_year : (zs : List YearRuns) (k : YearKey) (before rs : List Record) → AllByRecursion (IsOwn k) rs →
    AllBelow year_cmp year_total runs_key k zs → IsRising day_cmp record_day (before ++ rs) →
    loaded rs (zs ++ record { key = k; runs = before } ∷ []) ≡ zs ++ record { key = k; runs = before ++ rs } ∷ []
rest_of_year zs k before [] own below rising =
    ap (λ rs. zs ++ record { key = k; runs = rs } ∷ []) (sym (append-nil before))
rest_of_year zs k before (r ∷ rs) own below rising =
    ap (loaded rs) (more_run zs k before r own.0 below (front_below day_cmp day_total record_day before r rs rising))
    ∙ rest_of_year zs k (before ++ r ∷ []) rs own.1 below (subst (IsRising day_cmp record_day) (sym (append_assoc before (r ∷ []) rs)) rising)
    ∙ ap (λ rs'. zs ++ record { key = k; runs = rs' } ∷ []) (append_assoc before (r ∷ []) rs)

whole_year : (zs : List YearRuns) (y : YearRuns) → 0 < length y.runs → AllByRecursion (IsOwn y.key) y.runs →
    AllBelow year_cmp year_total runs_key y.key zs → IsRising day_cmp record_day y.runs → loaded y.runs zs ≡ zs ++ y ∷ []
whole_year zs y some own below rising = by y.key y.runs some own below rising
  where
    by : (k : YearKey) (rs : List Record) → 0 < length rs → AllByRecursion (IsOwn k) rs →
        AllBelow year_cmp year_total runs_key k zs → IsRising day_cmp record_day rs →
        loaded rs zs ≡ zs ++ record { key = k; runs = rs } ∷ []
    by k [] some own below rising = absurd (omega (arith, some))
    by k (r ∷ rs) some own below rising =
        ap (loaded rs) (first_run zs k r own.0 below) ∙ rest_of_year zs k (r ∷ []) rs own.1 below rising

loaded_append : (rs ss : List Record) (zs : List YearRuns) → loaded (rs ++ ss) zs ≡ loaded ss (loaded rs zs)
loaded_append [] ss zs = refl
loaded_append (r ∷ rs) ss zs = loaded_append rs ss (added r zs)

abbrev runs_in_years : List YearRuns → List Record
runs_in_years ys = flat_map (λ y. y.runs) ys

pub years_listed : (zs ys : List YearRuns) → IsRising year_cmp runs_key (zs ++ ys) →
    AllByRecursion (λ y. IsRising day_cmp record_day y.runs) ys → AllByRecursion (λ y. 0 < length y.runs) ys →
    AllByRecursion (λ (y : YearRuns). AllByRecursion (IsOwn y.key) y.runs) ys → loaded (runs_in_years ys) zs ≡ zs ++ ys
years_listed zs [] rising days some own = sym (append-nil zs)
years_listed zs (y ∷ ys) rising days some own =
    let below = front_below year_cmp year_total runs_key zs y ys rising in
    loaded_append y.runs (runs_in_years ys) zs
    ∙ ap (loaded (runs_in_years ys)) (whole_year zs y some.0 own.0 below days.0)
    ∙ years_listed (zs ++ y ∷ []) ys (subst (IsRising year_cmp runs_key) (sym (append_assoc zs (y ∷ []) ys)) rising)
    days.1 some.1 own.1
    ∙ append_assoc zs (y ∷ []) ys

pub parts_make : BooksAreTheirParts
parts_make book h = λ i. record {
  years = years_listed [] book.years h.order.rising h.order.days h.order.some h.own i;
  plans = book.plans;
  last = book.last;
}

-- ---- the keys of the runs are those of the rows, which rise

own_key : (k : YearKey) (o : Option (Entry Accepted)) (earlier : List Earlier) (r : Record) → IsOwn k r →
    row_key (keyed_row k (row_of o earlier r)) ≡ key_of r
own_key k o earlier r own = λ i. record { employee = sym own.employee i; day = row_of_day o earlier r i }

year_keys : (k : YearKey) (planned : Planned) (earlier : List Earlier) (rs : List Record) →
    AllByRecursion (IsOwn k) rs → map row_key (map (keyed_row k) (rows planned earlier rs)) ≡ map key_of rs
year_keys k planned earlier [] own = refl
year_keys k planned earlier (r ∷ rs) own = λ i.
    own_key k (planned r.day) earlier r own.0 i ∷ year_keys k planned (next planned earlier r) rs own.1 i

all_keys : (planned : Planned) (ys : List YearRuns) → AllByRecursion HasOwnRuns ys →
    map row_key (flat_map (keyed_rows planned) ys) ≡ map key_of (runs_in_years ys)
all_keys planned [] own = refl
all_keys planned (y ∷ ys) own =
    map-append row_key (keyed_rows planned y) (flat_map (keyed_rows planned) ys)
    ∙ (λ i. year_keys y.key planned [] y.runs own.0 i ++ all_keys planned ys own.1 i)
    ∙ sym (map-append key_of y.runs (runs_in_years ys))

pub runs_rise : (book : Contents) → IsBook book → IsRising key_cmp key_of (runs_listed book)
runs_rise book h =
    let rows = month_rows book in
    let keys = all_keys (pick book.plans) book.years h.own in
    let rise = map_rising key_cmp (λ (k : Key). k) row_key rows (book_rows_rise book h) in
    rising_map key_cmp (λ (k : Key). k) key_of (runs_listed book)
    (subst (IsRising key_cmp (λ (k : Key). k)) keys rise)

pub runs_distinct : RunsAreDistinct
runs_distinct book h = own_rising (runs_listed book) (runs_rise book h)
