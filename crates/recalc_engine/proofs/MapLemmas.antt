-- An edit of the runs changes the run at its key alone.
use Rattle.std.proofs.Common.{◌≡◌, ◌≢◌, ◌<◌, List, [], ◌∷◌, length, Option, Some, None, Bool, true, false, if◌then◌else◌, refl, sym, ap, subst, ◌∙◌, arith}
use Rattle.std.specs.List.{AllByRecursion}
use Rattle.std.specs.declared.cmp.Ordering.{Ordering}
use Rattle.std.specs.declared.cmp.Ordering.TheVariants.{Less, Equal, Greater}
use Rattle.std.specs.Ordering.{is_eq, nat_cmp, ordering_then}
use Rattle.std.specs.Cmp.Lexicographic.{slice_cmp}
use Rattle.rising_lists.specs.Keyed.{at_key, IsRising}
use Rattle.rising_lists.proofs.Laws.{all_in, at_key_put, at_key_without, found_in}
use Rattle.payroll_records.specs.declared.day.Day.{Day}
use Rattle.payroll_records.specs.declared.record.Key.{Key}
use Rattle.payroll_records.specs.declared.record.Record.{Record}
use Rattle.payroll_records.specs.Orders.{day_cmp, key_cmp}
use Rattle.payroll_records.specs.Tables.{HaveOwnKeys, key_of}
use Rattle.payroll_records.proofs.Laws.{day_total, key_same, own_parts}
use Rattle.std.specs.Option.{option_or}
use Rattle.book_year.specs.declared.year.YearKey.{YearKey}
use Rattle.book_year.specs.Records.{put_run, record_day, without_run}
use Rattle.book_edits.specs.Books.{AreInOrder, YearRuns, added, changed, loaded, run_at, runs_key, runs_of, runs_or_none, with_runs, withdrawn, year_cmp, year_of}
use Rattle.book_edits.proofs.Laws.{put_some, runs_rising, year_same, year_total}
use Rattle.recalc_engine.specs.RunMaps.{RunsAreMapped, on_day, with_none, with_run}
use Rattle.recalc_engine.proofs.BookLemmas.{not_tied}

-- ---- the runs of a year, once a year has these

runs_by : (b : Bool) (y : Option YearRuns) (o : Option YearRuns) →
    runs_or_none (if b then y else o) ≡ (if b then runs_or_none y else runs_or_none o)
runs_by true y o = refl
runs_by false y o = refl

runs_put : (a : YearKey) (rs : List Record) (ys : List YearRuns) (k : YearKey) → 0 < length rs →
    runs_of (with_runs a rs ys) k ≡ (if is_eq (year_cmp a k) then rs else runs_of ys k)
runs_put a [] ys k some = absurd (omega (arith, some))
runs_put a (r ∷ rs) ys k some =
    ap runs_or_none (at_key_put year_cmp year_total runs_key (record { key = a; runs = r ∷ rs }) ys k)
    ∙ runs_by (is_eq (year_cmp a k)) (Some (record { key = a; runs = r ∷ rs })) _

runs_with : (a : YearKey) (rs : List Record) (ys : List YearRuns) (k : YearKey) → IsRising year_cmp runs_key ys →
    runs_of (with_runs a rs ys) k ≡ (if is_eq (year_cmp a k) then rs else runs_of ys k)
runs_with a [] ys k rising =
    ap runs_or_none (at_key_without year_cmp year_total runs_key ys a k rising) ∙ runs_by (is_eq (year_cmp a k)) None _
runs_with a (r ∷ rs) ys k rising = runs_put a (r ∷ rs) ys k (omega arith)

-- ---- keys of one year stand as their days do

tie_first : (o p q : Ordering) → ordering_then o p ≡ Equal → ordering_then o q ≡ q
tie_first Less p q e = cc
tie_first Equal p q e = refl
tie_first Greater p q e = cc

days_tell : (a k : Key) → year_cmp (year_of a) (year_of k) ≡ Equal → key_cmp a k ≡ day_cmp a.day k.day
days_tell a k e =
    tie_first (slice_cmp nat_cmp a.employee k.employee) (nat_cmp a.day.year k.day.year) (day_cmp a.day k.day) e

others_apart : (a k : Key) → is_eq (year_cmp (year_of a) (year_of k)) ≡ false → is_eq (key_cmp a k) ≡ false
others_apart a k e = not_tied (year_of a) a k (record { employee = refl; year = refl }) e

-- ---- an edit of the year of a key

module _ (ys : List YearRuns) (a k : Key) (rs : List Record) (wanted : Option Record) where
  by_year : runs_of (with_runs (year_of a) rs ys) (year_of k) ≡ (if is_eq (year_cmp (year_of a) (year_of k)) then rs else runs_of ys (year_of k)) →
      (year_cmp (year_of a) (year_of k) ≡ Equal → at_key day_cmp record_day rs k.day ≡ wanted) →
      (is_eq (year_cmp (year_of a) (year_of k)) ≡ false → run_at ys k ≡ wanted) →
      run_at (with_runs (year_of a) rs ys) k ≡ wanted
  by_year runs here there =
      ap (λ t. at_key day_cmp record_day t k.day) runs
      ∙ (elim (year_cmp (year_of a) (year_of k)) as (λ o. year_cmp (year_of a) (year_of k) ≡ o → at_key day_cmp record_day (if is_eq o then rs else runs_of ys (year_of k)) k.day ≡ wanted) [
        | Less ↦ λ e. there (ap is_eq e)
        | Equal ↦ λ e. here e
        | Greater ↦ λ e. there (ap is_eq e)
      ]) refl

abbrev day_at : List YearRuns → YearKey → Key → Option Record
day_at ys a k = at_key day_cmp record_day (runs_of ys a) k.day

-- the runs of the year of a key
abbrev its_runs : List YearRuns → Key → List Record
its_runs ys a = runs_of ys (year_of a)

add_here : (ys : List YearRuns) (r : Record) (k : Key) → year_cmp (year_of (key_of r)) (year_of k) ≡ Equal →
    at_key day_cmp record_day (put_run r (its_runs ys (key_of r))) k.day ≡ with_run r (run_at ys) k
add_here ys r k e =
    let a = key_of r in
    let rs = its_runs ys a in
    at_key_put day_cmp day_total record_day r rs k.day
    ∙ ap (λ o. if is_eq o then Some r else at_key day_cmp record_day rs k.day) (sym (days_tell a k e))
    ∙ ap (λ (t : YearKey). if is_eq (key_cmp a k) then Some r else day_at ys t k) (year_same (year_of a) (year_of k) e)

add_maps : (ys : List YearRuns) (r : Record) (k : Key) → run_at (added r ys) k ≡ with_run r (run_at ys) k
add_maps ys r k =
    let a = key_of r in
    let rs = its_runs ys a in
    by_year ys a k (put_run r rs) (with_run r (run_at ys) k)
    (runs_put (year_of a) (put_run r rs) ys (year_of k) (put_some day_cmp record_day r rs)) (add_here ys r k)
    (λ e. ap (λ b. if b then Some r else run_at ys k) (sym (others_apart a k e)))

withdraw_here : (ys : List YearRuns) (a k : Key) → AreInOrder ys → year_cmp (year_of a) (year_of k) ≡ Equal →
    at_key day_cmp record_day (without_run a.day (its_runs ys a)) k.day ≡ with_none a (run_at ys) k
withdraw_here ys a k order e =
    let rs = its_runs ys a in
    at_key_without day_cmp day_total record_day rs a.day k.day (runs_rising ys (year_of a) order)
    ∙ ap (λ o. if is_eq o then None else at_key day_cmp record_day rs k.day) (sym (days_tell a k e))
    ∙ ap (λ (t : YearKey). if is_eq (key_cmp a k) then None else day_at ys t k) (year_same (year_of a) (year_of k) e)

withdraw_maps : (ys : List YearRuns) (a k : Key) → AreInOrder ys → run_at (withdrawn a ys) k ≡ with_none a (run_at ys) k
withdraw_maps ys a k order =
    let left = without_run a.day (its_runs ys a) in
    by_year ys a k left (with_none a (run_at ys) k) (runs_with (year_of a) left ys (year_of k) order.rising)
    (withdraw_here ys a k order)
    (λ e. ap (λ b. if b then None else run_at ys k) (sym (others_apart a k e)))

module _ (ys : List YearRuns) (from : Day) (r : Record) (k : Key) (order : AreInOrder ys) (year : from.year ≡ r.day.year) where
  same_year : year_of (on_day r from) ≡ year_of (key_of r)
  same_year = λ i. record { employee = r.employee; year = year i }

  change_here : year_cmp (year_of (key_of r)) (year_of k) ≡ Equal →
      at_key day_cmp record_day (put_run r (without_run from (its_runs ys (key_of r)))) k.day ≡ with_run r
      (with_none (on_day r from) (run_at ys)) k
  change_here e =
      let a = key_of r in
      let b = on_day r from in
      let rs = its_runs ys a in
      let left = without_run from rs in
      let e' : year_cmp (year_of b) (year_of k) ≡ Equal = ap (λ (t : YearKey). year_cmp t (year_of k)) same_year ∙ e in
      at_key_put day_cmp day_total record_day r left k.day
      ∙ ap (λ t. if is_eq (day_cmp r.day k.day) then Some r else t)
      (at_key_without day_cmp day_total record_day rs from k.day (runs_rising ys (year_of a) order))
      ∙ ap (λ o. if is_eq o then Some r else (if is_eq (day_cmp from k.day) then None else at_key day_cmp record_day rs k.day)) (sym (days_tell a k e))
      ∙ ap (λ o. if is_eq (key_cmp a k) then Some r else (if is_eq o then None else at_key day_cmp record_day rs k.day)) (sym (days_tell b k e'))
      ∙ ap (λ (t : YearKey). if is_eq (key_cmp a k) then Some r else (if is_eq (key_cmp b k) then None else day_at ys t k)) (year_same (year_of a) (year_of k) e)

  change_maps : run_at (changed from r ys) k ≡ with_run r (with_none (on_day r from) (run_at ys)) k
  change_maps =
      let a = key_of r in
      let b = on_day r from in
      let left = without_run from (its_runs ys a) in
      by_year ys a k (put_run r left) (with_run r (with_none b (run_at ys)) k)
      (runs_put (year_of a) (put_run r left) ys (year_of k) (put_some day_cmp record_day r left)) change_here
      (λ e. ap (λ t. if t then None else run_at ys k) (sym (others_apart b k (subst (λ (t : YearKey). is_eq (year_cmp t (year_of k)) ≡ false) (sym same_year) e)))
      ∙ ap (λ t. if t then Some r else with_none b (run_at ys) k) (sym (others_apart a k e)))

-- ---- many runs

-- a key that ties with a record's is no other's
not_listed : (r : Record) (k : Key) (rs : List Record) → key_cmp (key_of r) k ≡ Equal → AllByRecursion (λ s. key_of r ≢ key_of s) rs →
    at_key key_cmp key_of rs k ≡ None
not_listed r k rs e apart = by (at_key key_cmp key_of rs k) refl
  where
    by : (o : Option Record) → at_key key_cmp key_of rs k ≡ o → o ≡ None
    by None f = refl
    by (Some s) f =
        let found = found_in key_cmp key_of rs k s f in
        absurd (all_in (λ t. key_of r ≢ key_of t) rs s apart found.0 (key_same (key_of r) k e ∙ sym (key_same (key_of s) k found.1)))

load_maps : (ys : List YearRuns) (rs : List Record) (k : Key) → HaveOwnKeys rs →
    run_at (loaded rs ys) k ≡ option_or (at_key key_cmp key_of rs k) (run_at ys k)
load_maps ys [] k distinct = refl
load_maps ys (r ∷ rs) k distinct =
    let parts = own_parts r rs distinct in
    load_maps (added r ys) rs k parts.1 ∙ ap (option_or (at_key key_cmp key_of rs k)) (add_maps ys r k)
    ∙ (elim (key_cmp (key_of r) k) as (λ o. key_cmp (key_of r) k ≡ o →
    option_or (at_key key_cmp key_of rs k) (if is_eq o then Some r else run_at ys k) ≡ option_or (if is_eq o then Some r else at_key key_cmp key_of rs k) (run_at ys k)) [
      | Less ↦ λ e. refl
      | Equal ↦ λ e. ap (λ o. option_or o (Some r)) (not_listed r k rs e parts.0)
      | Greater ↦ λ e. refl
    ]) refl

pub runs_mapped : RunsAreMapped
runs_mapped = record { add = add_maps; withdraw = withdraw_maps; change = change_maps; load = load_maps }
