-- The run of a day among a year's runs, computed anew.
use Rattle.std.proofs.Common.{◌≡◌, ℕ, zero, suc, List, [], ◌∷◌, ◌++◌, get_or, Option, Some, None, refl, sym, ap, ◌∙◌, if◌then◌else◌, arith}
use Rattle.std.specs.declared.cmp.Ordering.{Ordering}
use Rattle.std.specs.declared.cmp.Ordering.TheVariants.{Less, Equal, Greater}
use Rattle.std.specs.Ordering.{is_eq}
use Rattle.rising_lists.specs.Keyed.{at_key}
use Rattle.rising_lists.specs.Places.{IsAt, IsGap}
use Rattle.rising_lists.proofs.Laws.{at_tail, gap_tail, gap_first}
use Rattle.payroll_records.specs.declared.day.Day.{Day}
use Rattle.payroll_records.specs.declared.record.Record.{Record}
use Rattle.payroll_records.specs.Orders.{day_cmp}
use Rattle.payroll_records.proofs.Laws.{day_total, day_same}
use Rattle.carry_bindings.specs.declared.carried.Earlier.{Earlier}
use Rattle.book_year.specs.Records.{record_day}
use Rattle.book_year.specs.Rows.{Planned, Row, row_of, rows, earlier_of}
use Rattle.book_year.proofs.Laws.{row_of_day}

abbrev pub row_day : Row → Day
row_day row = row.day

-- a run of a day's record, after some runs
pub record IsRunOn (planned : Planned) (d : Day) (row : Row) : Type 0 where
  pub item : Record
  pub earlier : List Earlier
  pub is : row ≡ row_of (planned d) earlier item

module _ (planned : Planned) where
  -- what a day's runs have before them, with one run more
  abbrev pub next : List Earlier → Record → List Earlier
  next earlier r = earlier ++ earlier_of (row_of (planned r.day) earlier r) ∷ []

  row_tie : (earlier : List Earlier) (r : Record) (k : Day) (o : Ordering) → day_cmp r.day k ≡ o → day_cmp (row_of (planned r.day) earlier r).day k ≡ o
  row_tie earlier r k o e = ap (λ t. day_cmp t k) (row_of_day (planned r.day) earlier r) ∙ e

  -- the run at the place of a day's record
  pub row_here : (earlier : List Earlier) (rs : List Record) (k : Day) (i : ℕ) (d : Row) → IsAt day_cmp record_day rs k i → at_key day_cmp row_day (rows planned earlier rs) k ≡ Some (get_or (rows planned earlier rs) i d)
  row_here earlier [] k i d h = absurd (omega (arith, h.within))
  row_here earlier (r ∷ rs) k zero d h = rw (row_tie earlier r k _ (h.here r))
  row_here earlier (r ∷ rs) k (suc i) d h = rw (row_tie earlier r k _ (h.before 0 r (omega arith))) (row_here (next earlier r) rs k i d (at_tail day_cmp day_total record_day r rs k i h))

  -- no run, where no record has the day
  pub row_gap : (earlier : List Earlier) (rs : List Record) (k : Day) (i : ℕ) → IsGap day_cmp record_day rs k i → at_key day_cmp row_day (rows planned earlier rs) k ≡ None
  row_gap earlier [] k i h = refl
  row_gap earlier (r ∷ rs) k zero h = rw (row_tie earlier r k _ (h.after 0 r (omega arith) (omega arith))) (row_gap (next earlier r) rs k zero (gap_first day_cmp day_total record_day r rs k h))
  row_gap earlier (r ∷ rs) k (suc i) h = rw (row_tie earlier r k _ (h.before 0 r (omega arith))) (row_gap (next earlier r) rs k i (gap_tail day_cmp day_total record_day r rs k i h))

  first_on : (earlier : List Earlier) (r : Record) (d : Day) (row : Row) → day_cmp (row_of (planned r.day) earlier r).day d ≡ Equal → row_of (planned r.day) earlier r ≡ row → IsRunOn planned d row
  first_on earlier r d row e is =
      let day : r.day ≡ d = day_same r.day d (ap (λ t. day_cmp t d) (sym (row_of_day (planned r.day) earlier r)) ∙ e) in
      record { item = r; earlier = earlier; is = sym is ∙ ap (λ t. row_of (planned t) earlier r) day }

  some_same : (x y : Row) → ◌≡◌ {A = Option Row} (Some x) (Some y) → x ≡ y
  some_same x y e = cc e

  -- the run of a day is that of a record of that day, after some runs
  pub run_on : (earlier : List Earlier) (rs : List Record) (d : Day) (row : Row) → at_key day_cmp row_day (rows planned earlier rs) d ≡ Some row → IsRunOn planned d row
  run_on earlier [] d row h = cc
  run_on earlier (r ∷ rs) d row h =
      let first = row_of (planned r.day) earlier r in
      let more = rows planned (next earlier r) rs in
      (elim (day_cmp first.day d) as (λ o. day_cmp first.day d ≡ o → (if is_eq o then Some first else at_key day_cmp row_day more d) ≡ Some row → IsRunOn planned d row) [
        | Less ↦ λ e k. run_on (next earlier r) rs d row k
        | Equal ↦ λ e k. first_on earlier r d row e (some_same first row k)
        | Greater ↦ λ e k. run_on (next earlier r) rs d row k
      ]) refl h
