-- The rows of a book rise by employee and day, one for each run.
use Rattle.std.proofs.Common.{◌≡◌, ℕ, ◌+◌, ◌<◌, List, [], ◌∷◌, ◌++◌, map, length, Option, Some, None, option_map, true, false, if◌then◌else◌, refl, ap, subst, ◌∙◌, arith, get_or, suc, inl, inr}
use Rattle.std.specs.List.{AllByRecursion, flat_map}
use Rattle.std.specs.Option.{option_or}
use Rattle.std.specs.declared.cmp.Ordering.{Ordering}
use Rattle.std.specs.declared.cmp.Ordering.TheVariants.{Less, Equal, Greater}
use Rattle.std.specs.Ordering.{is_eq, nat_cmp, ordering_then}
use Rattle.std.specs.Cmp.Lexicographic.{nat_list_cmp_total, slice_cmp}
use Rattle.std.proofs.lemmas.Bool.{cases_lt}
use Rattle.std.proofs.lemmas.Cmp.{tied_itself}
use Rattle.std.proofs.lemmas.List.{get_or_default, length-append, length-map}
use Rattle.std.proofs.lemmas.List.Sums.{sum_by-cons}
use Rattle.rising_lists.specs.Keyed.{at_key, AreAbove, IsRising}
use Rattle.rising_lists.proofs.Laws.{at_key_above}
use Rattle.payroll_records.specs.declared.day.Day.{Day}
use Rattle.payroll_records.specs.declared.record.Key.{Key}
use Rattle.payroll_records.specs.declared.record.Record.{Record}
use Rattle.payroll_records.specs.Orders.{day_cmp, key_cmp}
use Rattle.payroll_records.proofs.Laws.{key_total}
use Rattle.plan_calendar.specs.Picking.{AreEntries, Entry, pick}
use Rattle.carry_bindings.specs.declared.carried.Earlier.{Earlier}
use Rattle.pap_plan.specs.Plans.{Seen}
use Rattle.book_year.specs.Accepted.{Accepted, accepted, plans_in}
use Rattle.book_year.specs.declared.outcome.Work.{Work}
use Rattle.book_year.specs.declared.year.Year.{Year}
use Rattle.book_year.specs.declared.year.YearKey.{YearKey}
use Rattle.book_year.specs.Records.{record_day}
use Rattle.book_year.specs.Rows.{Planned, Row, rows, year_rows}
use Rattle.book_year.specs.Years.{IsOwn, IsYear}
use Rattle.book_year.proofs.Laws.{row_of_day, rows_length, rows_rising}
use Rattle.book_edits.specs.Books.{YearRuns, run_count, runs_key, runs_of, runs_or_none, year_cmp, year_of}
use Rattle.book_edits.specs.declared.years.Years.{Years}
use Rattle.book_edits.specs.Kept.{AreYears, runs_in, years_of}
use Rattle.book_edits.proofs.Laws.{at_key_map, kept_in_order, plans_length, plans_rise, year_same}
use Rattle.recalc_engine.specs.BookLaws.{AreAcceptedPlans, HasOwnRuns, IsBook, IsAcceptedPlan, RowsAreCounted, RowsAreRuns, RowsRise, row_key}
use Rattle.recalc_engine.specs.MonthRows.{KeyedRow, keyed_row, keyed_rows}
use Rattle.recalc_engine.proofs.RowLemmas.{next, row_day}

-- ---- one list after another

module _ {K X : Type 0} (cmp : K → K → Ordering) (key : X → K) where
  above_both : (k : K) (xs ys : List X) → AreAbove cmp key k xs → AreAbove cmp key k ys → AreAbove cmp key k (xs ++ ys)
  above_both k [] ys h g = g
  above_both k (x ∷ xs) ys h g = (h.0, above_both k xs ys h.1 g)

  rising_both : (xs ys : List X) → IsRising cmp key xs → IsRising cmp key ys →
      AllByRecursion (λ x. AreAbove cmp key (key x) ys) xs → IsRising cmp key (xs ++ ys)
  rising_both [] ys h g all = g
  rising_both (x ∷ xs) ys h g all = (above_both (key x) xs ys h.0 all.0, rising_both xs ys h.1 g all.1)

  at_key_both : (xs ys : List X) (k : K) →
      at_key cmp key (xs ++ ys) k ≡ option_or (at_key cmp key xs k) (at_key cmp key ys k)
  at_key_both [] ys k = refl
  at_key_both (x ∷ xs) ys k = elim (is_eq (cmp (key x) k)) as (λ b. (if b then Some x else at_key cmp key (xs ++ ys) k) ≡ option_or (if b then Some x else at_key cmp key xs k) (at_key cmp key ys k)) [
    | true ↦ refl
    | false ↦ at_key_both xs ys k
  ]

  none_tied : (xs : List X) (k : K) → AllByRecursion (λ x. is_eq (cmp (key x) k) ≡ false) xs →
      at_key cmp key xs k ≡ None
  none_tied [] k h = refl
  none_tied (x ∷ xs) k h = ap (λ b. if b then Some x else at_key cmp key xs k) h.0 ∙ none_tied xs k h.1

-- ---- keys of a year

-- the key is one of an employee's year
pub record IsIn (k : YearKey) (key : Key) : Type 0 where
  pub employee : key.employee ≡ k.employee
  pub year : key.day.year ≡ k.year

less_first : (o p q : Ordering) → ordering_then o p ≡ Less → ordering_then o (ordering_then p q) ≡ Less
less_first Less p q e = refl
less_first Equal p q e = rw e
less_first Greater p q e = cc

apart_first : (o p q : Ordering) → is_eq (ordering_then o p) ≡ false →
    is_eq (ordering_then o (ordering_then p q)) ≡ false
apart_first Less p q e = refl
apart_first Equal Less q e = refl
apart_first Equal Equal q e = cc
apart_first Equal Greater q e = refl
apart_first Greater p q e = refl

-- keys of two years stand as the years do
years_apart : (a b : YearKey) (x y : Key) → IsIn a x → IsIn b y → year_cmp a b ≡ Less → key_cmp x y ≡ Less
years_apart a b x y hx hy l =
    rw (hx.employee, hy.employee, hx.year, hy.year)
    (less_first (slice_cmp nat_cmp a.employee b.employee) (nat_cmp a.year b.year) _ l)

-- a key of another year isn't this one
pub not_tied : (a : YearKey) (x k : Key) → IsIn a x → is_eq (year_cmp a (year_of k)) ≡ false →
    is_eq (key_cmp x k) ≡ false
not_tied a x k hx l =
    rw (hx.employee, hx.year) (apart_first (slice_cmp nat_cmp a.employee k.employee) (nat_cmp a.year k.day.year) _ l)

-- ---- the rows of a year

pub rows_in : (k : YearKey) (planned : Planned) (earlier : List Earlier) (rs : List Record) →
    AllByRecursion (IsOwn k) rs →
    AllByRecursion (λ row. IsIn k (row_key row)) (map (keyed_row k) (rows planned earlier rs))
rows_in k planned earlier [] own = tt
rows_in k planned earlier (r ∷ rs) own = (
  record { employee = refl; year = ap (λ (d : Day). d.year) (row_of_day (planned r.day) earlier r) ∙ own.0.year },
  rows_in k planned (next planned earlier r) rs own.1,
)

employee_ties : (e : List ℕ) → slice_cmp nat_cmp e e ≡ Equal
employee_ties e = tied_itself nat_list_cmp_total e

-- rows of one employee stand as their days do
row_above : (k : YearKey) (d : Day) (rs : List Row) → AreAbove day_cmp row_day d rs →
    AreAbove key_cmp row_key (record { employee = k.employee; day = d }) (map (keyed_row k) rs)
row_above k d [] h = tt
row_above k d (r ∷ rs) h =
    (ap (λ o. ordering_then o (day_cmp d r.day)) (employee_ties k.employee) ∙ h.0, row_above k d rs h.1)

rows_rise : (k : YearKey) (rs : List Row) → IsRising day_cmp row_day rs →
    IsRising key_cmp row_key (map (keyed_row k) rs)
rows_rise k [] h = tt
rows_rise k (r ∷ rs) h = (row_above k r.day rs h.0, rows_rise k rs h.1)

-- ---- the rows of all years

rows_above : (a b : YearKey) (x : Key) (rs : List KeyedRow) → IsIn a x → year_cmp a b ≡ Less →
    AllByRecursion (λ row. IsIn b (row_key row)) rs → AreAbove key_cmp row_key x rs
rows_above a b x [] h l all = tt
rows_above a b x (r ∷ rs) h l all = (years_apart a b x (row_key r) h all.0 l, rows_above a b x rs h l all.1)

module _ (planned : Planned) where
  years_above : (a : YearKey) (x : Key) (ys : List YearRuns) → IsIn a x → AreAbove year_cmp runs_key a ys →
      AllByRecursion HasOwnRuns ys → AreAbove key_cmp row_key x (flat_map (keyed_rows planned) ys)
  years_above a x [] h above own = tt
  years_above a x (y ∷ ys) h above own =
      above_both key_cmp row_key x (keyed_rows planned y) (flat_map (keyed_rows planned) ys)
      (rows_above a y.key x (keyed_rows planned y) h above.0 (rows_in y.key planned [] y.runs own.0))
      (years_above a x ys h above.1 own.1)

  each_above : (a : YearKey) (rs : List KeyedRow) (ys : List YearRuns) →
      AllByRecursion (λ row. IsIn a (row_key row)) rs → AreAbove year_cmp runs_key a ys → AllByRecursion HasOwnRuns ys →
      AllByRecursion (λ row. AreAbove key_cmp row_key (row_key row) (flat_map (keyed_rows planned) ys)) rs
  each_above a [] ys all above own = tt
  each_above a (r ∷ rs) ys all above own =
      (years_above a (row_key r) ys all.0 above own, each_above a rs ys all.1 above own)

  all_rise : (ys : List YearRuns) → IsRising year_cmp runs_key ys →
      AllByRecursion (λ y. IsRising day_cmp record_day y.runs) ys → AllByRecursion HasOwnRuns ys →
      IsRising key_cmp row_key (flat_map (keyed_rows planned) ys)
  all_rise [] rising days own = tt
  all_rise (y ∷ ys) rising days own =
      let rest = flat_map (keyed_rows planned) ys in
      rising_both key_cmp row_key (keyed_rows planned y) rest
      (rows_rise y.key (year_rows planned y.runs) (rows_rising planned [] y.runs days.0))
      (all_rise ys rising.1 days.1 own.1)
      (each_above y.key (keyed_rows planned y) ys (rows_in y.key planned [] y.runs own.0) rising.0 own.1)

  all_counted : (ys : List YearRuns) → length (flat_map (keyed_rows planned) ys) ≡ run_count ys
  all_counted [] = refl
  all_counted (y ∷ ys) =
      omega (arith, length-append (keyed_rows planned y) (flat_map (keyed_rows planned) ys), length-map (year_rows planned y.runs) (keyed_row y.key), rows_length planned [] y.runs, all_counted ys, sum_by-cons (λ (x : YearRuns). length x.runs) y ys)

  -- ---- the row of a key

  on_day : (k : Key) (rs : List Row) →
      at_key key_cmp (λ row. row_key (keyed_row (year_of k) row)) rs k ≡ at_key day_cmp row_day rs k.day
  on_day k [] = refl
  on_day k (r ∷ rs) =
      ap (λ o. if is_eq (ordering_then o (day_cmp r.day k.day)) then Some r else at_key key_cmp (λ row. row_key (keyed_row (year_of k) row)) rs k) (employee_ties k.employee)
      ∙ ap (λ t. if is_eq (day_cmp r.day k.day) then Some r else t) (on_day k rs)

  year_at : (a : YearKey) (k : Key) (rs : List Row) → a ≡ year_of k →
      at_key key_cmp row_key (map (keyed_row a) rs) k ≡ option_map (keyed_row (year_of k))
      (at_key day_cmp row_day rs k.day)
  year_at a k rs e =
      ap (λ (t : YearKey). at_key key_cmp row_key (map (keyed_row t) rs) k) e
      ∙ at_key_map key_cmp row_key (keyed_row (year_of k)) rs k
      ∙ ap (option_map (keyed_row (year_of k))) (on_day k rs)

  untied : (a : YearKey) (k : Key) (rs : List KeyedRow) → is_eq (year_cmp a (year_of k)) ≡ false →
      AllByRecursion (λ row. IsIn a (row_key row)) rs →
      AllByRecursion (λ row. is_eq (key_cmp (row_key row) k) ≡ false) rs
  untied a k [] e all = tt
  untied a k (r ∷ rs) e all = (not_tied a (row_key r) k all.0 e, untied a k rs e all.1)

  no_later : (k : Key) (ys : List YearRuns) → AreAbove year_cmp runs_key (year_of k) ys →
      AllByRecursion HasOwnRuns ys → at_key key_cmp row_key (flat_map (keyed_rows planned) ys) k ≡ None
  no_later k ys above own =
      at_key_above key_cmp key_total row_key k k (flat_map (keyed_rows planned) ys)
      (years_above (year_of k) k ys (record { employee = refl; year = refl }) above own) (tied_itself key_total k)

  abbrev row_on : List Record → Key → Option KeyedRow
  row_on rs k = option_map (keyed_row (year_of k)) (at_key day_cmp row_day (year_rows planned rs) k.day)

  or_none : {X : Type 0} (o : Option X) → option_or o None ≡ o
  or_none None = refl
  or_none (Some x) = refl

  -- the row of a key among the rows of years
  abbrev found_in : List YearRuns → Key → Option KeyedRow
  found_in ys k = at_key key_cmp row_key (flat_map (keyed_rows planned) ys) k

  abbrev found_of : YearRuns → Key → Option KeyedRow
  found_of y k = at_key key_cmp row_key (keyed_rows planned y) k

  in_other : (y : YearRuns) (ys : List YearRuns) (k : Key) → AllByRecursion (IsOwn y.key) y.runs →
      is_eq (year_cmp y.key (year_of k)) ≡ false → option_or (found_of y k) (found_in ys k) ≡ found_in ys k
  in_other y ys k own e =
      ap (λ o. option_or o (found_in ys k))
      (none_tied key_cmp row_key (keyed_rows planned y) k (untied y.key k (keyed_rows planned y) e (rows_in y.key planned [] y.runs own)))

  in_this : (y : YearRuns) (ys : List YearRuns) (k : Key) → AreAbove year_cmp runs_key y.key ys →
      AllByRecursion HasOwnRuns ys → y.key ≡ year_of k → option_or (found_of y k) (found_in ys k) ≡ row_on y.runs k
  in_this y ys k above own e =
      ap (option_or (found_of y k)) (no_later k ys (subst (λ t. AreAbove year_cmp runs_key t ys) e above) own)
      ∙ or_none (found_of y k) ∙ year_at y.key k (year_rows planned y.runs) e

  all_at : (ys : List YearRuns) (k : Key) → IsRising year_cmp runs_key ys → AllByRecursion HasOwnRuns ys →
      found_in ys k ≡ row_on (runs_of ys (year_of k)) k
  all_at [] k rising own = refl
  all_at (y ∷ ys) k rising own =
      at_key_both key_cmp row_key (keyed_rows planned y) (flat_map (keyed_rows planned) ys) k
      ∙ (elim (year_cmp y.key (year_of k)) as (λ o. year_cmp y.key (year_of k) ≡ o → option_or (found_of y k) (found_in ys k) ≡ row_on (runs_or_none (if is_eq o then Some y else at_key year_cmp runs_key ys (year_of k))) k) [
        | Less ↦ λ e. in_other y ys k own.0 (ap is_eq e) ∙ all_at ys k rising.1 own.1
        | Equal ↦ λ e. in_this y ys k rising.0 own.1 (year_same y.key (year_of k) e)
        | Greater ↦ λ e. in_other y ys k own.0 (ap is_eq e) ∙ all_at ys k rising.1 own.1
      ]) refl

pub book_rows_rise : RowsRise
book_rows_rise book h = all_rise (pick book.plans) book.years h.order.rising h.order.days h.own

pub book_rows_counted : RowsAreCounted
book_rows_counted book = all_counted (pick book.plans) book.years

pub book_rows_runs : RowsAreRuns
book_rows_runs book k h = all_at (pick book.plans) book.years k h.order.rising h.own

-- ---- what is kept is a book

own_kept : (plans : List (Entry Accepted)) (ys : List Year) → AllByRecursion (IsYear plans) ys →
    AllByRecursion HasOwnRuns (runs_in ys)
own_kept plans [] each = tt
own_kept plans (y ∷ ys) each = (each.0.own, own_kept plans ys each.1)

pub whole_book : (es plans : List (Entry Seen)) (ys : Years) (last : Work) → AreYears (plans_in plans) ys →
    AreEntries plans → es ≡ plans → AreAcceptedPlans (plans_in es) →
    IsBook (record { years = years_of ys; plans = plans_in plans; last = last })
whole_book es plans ys last kept are same accepted = record {
  order =
      kept_in_order (plans_in plans) ys.list.items
      (record { rising = kept.rising; each = kept.each; some = kept.some });
  own = own_kept (plans_in plans) ys.list.items kept.each;
  few = omega (arith, kept.count, kept.few);
  entries = record { rising = plans_rise plans are.rising; few = omega (arith, plans_length plans, are.few) };
  plans = subst (λ t. AreAcceptedPlans (plans_in t)) same accepted;
}

pub each_plan : (es : List (Entry Seen)) →
    ((k : ℕ) (d : Entry Seen) → k < length es → IsAcceptedPlan (accepted (get_or es k d).1)) → AreAcceptedPlans (plans_in es)
each_plan [] h = tt
each_plan (e ∷ es) h = (h 0 e (omega arith), each_plan es (λ k d lt. h (suc k) d (omega (arith, lt))))

pub one_plan : (es : List (Entry Seen)) (i : ℕ) (e : Entry Seen) → i < length es → e ≡ get_or es i e →
    IsAcceptedPlan (accepted e.1) → ((k : ℕ) (d : Entry Seen) → k < i → IsAcceptedPlan (accepted (get_or es k d).1)) →
    (k : ℕ) (d : Entry Seen) → k < i + 1 → IsAcceptedPlan (accepted (get_or es k d).1)
one_plan es i e within is plan below k d lt = elim (cases_lt k i) [
  | inl l ↦ below k d l
  | inr g ↦
      let same : i ≡ k = omega arith in
      subst (λ n. IsAcceptedPlan (accepted (get_or es n d).1)) same
      (subst (λ (t : Entry Seen). IsAcceptedPlan (accepted t.1)) (is ∙ get_or_default es i e d within) plan)
]
