-- An accepted edit changes the runs that it means, and nothing else.
use Rattle.std.proofs.Common.{◌≡◌, ℕ, List, [], ◌∷◌, Option, Some, IsSome, is_some, Bool, true, false, if◌then◌else◌, cond, filter, refl, sym, ap, subst, ◌∙◌}
use Rattle.std.specs.List.{AllByRecursion}
use Rattle.std.specs.Ordering.{is_eq}
use Rattle.std.specs.declared.cmp.Ordering.TheVariants.{Less, Equal, Greater}
use Rattle.rising_lists.specs.Keyed.{at_key}
use Rattle.payroll_records.specs.declared.day.Day.{Day}
use Rattle.payroll_records.specs.declared.record.Key.{Key}
use Rattle.payroll_records.specs.declared.record.Record.{Record}
use Rattle.payroll_records.specs.declared.when.When.{When}
use Rattle.payroll_records.specs.declared.when.When.TheVariants as when
use Rattle.payroll_records.specs.Orders.{day_cmp}
use Rattle.payroll_records.specs.Tables.{key_of}
use Rattle.payroll_records.proofs.Laws.{day_total}
use Rattle.book_year.specs.declared.year.YearKey.{YearKey}
use Rattle.book_year.specs.Records.{record_day}
use Rattle.book_year.specs.Years.{IsOwn}
use Rattle.book_edits.specs.declared.in_month.InMonth.{InMonth}
use Rattle.book_edits.specs.declared.in_month.InMonth.TheVariants.{Empty, One, Several}
use Rattle.book_edits.specs.Books.{YearRuns, changed, changed_from, in_month, is_in_month, only_one, run_at, runs_key, runs_of, runs_or_none, source_of, withdrawal, withdrawn, withdrawn_from, year_cmp, year_of}
use Rattle.book_edits.specs.Refusals.{IsOne}
use Rattle.book_edits.proofs.Laws.{found_each, runs_rising, year_same}
use Rattle.recalc_engine.specs.BookLaws.{HasOwnRuns, IsBook}
use Rattle.recalc_engine.specs.Contents.{Contents}
use Rattle.recalc_engine.specs.EditAnswers as edits
use Rattle.recalc_engine.specs.EditMaps.{EditsAreMapped, ReplacesOne, TakesMeantRun}
use Rattle.recalc_engine.specs.RunMaps.{on_day, with_none, with_run}
use Rattle.recalc_engine.proofs.MapLemmas.{runs_mapped}

-- the runs of a year are its own
own_here : (ys : List YearRuns) (k : YearKey) → AllByRecursion HasOwnRuns ys → AllByRecursion (IsOwn k) (runs_of ys k)
own_here [] k own = tt
own_here (y ∷ ys) k own = elim (year_cmp y.key k) as (λ o. year_cmp y.key k ≡ o → AllByRecursion (IsOwn k) (runs_or_none (if is_eq o then Some y else at_key year_cmp runs_key ys k))) [
  | Less ↦ λ e. own_here ys k own.1
  | Equal ↦ λ e. subst (λ t. AllByRecursion (IsOwn t) y.runs) (year_same y.key k e) own.0
  | Greater ↦ λ e. own_here ys k own.1
] refl

-- ---- the only run of a month

-- a run of the list that passes the test, where it is the only one, has this key
record IsOnly (P : Record → Type 0) (k : Key) : Type 0 where
  run : Record
  holds : P run
  key : key_of run ≡ k

only_of : (P : Record → Type 0) (rs : List Record) (k : Key) → AllByRecursion P rs → only_one rs ≡ One k → IsOnly P k
only_of P [] k all e = cc
only_of P (r ∷ []) k all e = record { run = r; holds = all.0; key = cc }
only_of P (r ∷ (s ∷ rs)) k all e = cc

passing : (P : Record → Type 0) (p : Record → Bool) (rs : List Record) → AllByRecursion P rs → AllByRecursion P (filter p rs)
passing P p [] all = tt
passing P p (r ∷ rs) all = elim (p r) as (λ b. AllByRecursion P (cond b (r ∷ filter p rs) (filter p rs))) [
  | true ↦ (all.0, passing P p rs all.1)
  | false ↦ passing P p rs all.1
]

both : (P Q : Record → Type 0) (rs : List Record) → AllByRecursion P rs → AllByRecursion Q rs → AllByRecursion (λ r. P r × Q r) rs
both P Q [] p q = tt
both P Q (r ∷ rs) p q = ((p.0, q.0), both P Q rs p.1 q.1)

-- the key stands in the employee's year
record IsKeyIn (years : List YearRuns) (e : List ℕ) (year : ℕ) (k : Key) : Type 0 where
  employee : k.employee ≡ e
  in_year : k.day.year ≡ year
  there : IsSome (run_at years k)

some_from : {X : Type 0} (o : Option X) (x : X) → o ≡ Some x → IsSome o
some_from o x e = rw e refl

month_key : (book : Contents) (e : List ℕ) (year month : ℕ) (k : Key) → IsBook book → in_month book.years e year month ≡ One k → IsKeyIn book.years e year k
month_key book e year month k good is =
    let years = book.years in
    let key : YearKey = record { employee = e; year = year } in
    let rs = runs_of years key in
    let Found : Record → Type 0 = λ x. at_key day_cmp record_day rs x.day ≡ Some x in
    let found = found_each day_cmp day_total record_day rs (runs_rising years key good.order) in
    let all = both Found (IsOwn key) rs found (own_here years key good.own) in
    let only = only_of (λ x. Found x × IsOwn key x) (filter (λ r. is_in_month month r.day) rs) k (passing (λ x. Found x × IsOwn key x) (λ r. is_in_month month r.day) rs all) is in
    let of_year : year_of (key_of only.run) ≡ key = λ i. record { employee = only.holds.1.employee i; year = only.holds.1.year i } in
    let there : run_at years (key_of only.run) ≡ Some only.run = ap (λ t. at_key day_cmp record_day (runs_of years t) only.run.day) of_year ∙ only.holds.0 in
    subst (IsKeyIn years e year) only.key (record { employee = only.holds.1.employee; in_year = only.holds.1.year; there = some_from _ only.run there })

-- ---- the run that is meant

source_key : (book : Contents) (r : Record) (k : Key) → IsBook book → source_of book.years r ≡ One k → IsKeyIn book.years r.employee r.day.year k
source_key book r k good e =
    let years = book.years in
    elim (is_some (run_at years (key_of r))) as (λ b. is_some (run_at years (key_of r)) ≡ b → (if b then One (key_of r) else in_month years r.employee r.day.year r.day.month) ≡ One k → IsKeyIn years r.employee r.day.year k) [
      | true ↦ λ s f.
          let same : key_of r ≡ k = cc in
          subst (IsKeyIn years r.employee r.day.year) same (record { employee = refl; in_year = refl; there = s })
      | false ↦ λ s f. month_key book r.employee r.day.year r.day.month k good f
    ] refl e

withdrawal_there : (book : Contents) (e : List ℕ) (w : When) (k : Key) → IsBook book → withdrawal book.years e w ≡ One k → IsSome (run_at book.years k)
withdrawal_there book e (when.Day d) k good is =
    let years = book.years in
    let key : Key = record { employee = e; day = d } in
    elim (is_some (run_at years key)) as (λ b. is_some (run_at years key) ≡ b → (if b then One key else Empty) ≡ One k → IsSome (run_at years k)) [
      | true ↦ λ s f.
          let same : key ≡ k = cc in
          subst (λ (t : Key). IsSome (run_at years t)) same s
      | false ↦ λ s f. cc
    ] refl is
withdrawal_there book e (when.Month m) k good is = (month_key book e m.year m.month k good is).there

-- ---- the edits

change_years : (book : Contents) (r : Record) (from : Key) → IsBook book → IsKeyIn book.years r.employee r.day.year from → (k : Key) →
    run_at (changed from.day r book.years) k ≡ with_run r (with_none from (run_at book.years)) k
change_years book r from good is k =
    let same : on_day r from.day ≡ from = λ i. record { employee = sym is.employee i; day = from.day } in
    runs_mapped.change book.years from.day r k good.order is.in_year
    ∙ ap (λ (t : Key). with_run r (with_none t (run_at book.years)) k) same

change_maps : (old new : Contents) (r : Record) → IsBook old → (o : InMonth) → source_of old.years r ≡ o → IsOne o → new ≡ edits.edited_book (edits.change r) old → ReplacesOne old new r
change_maps old new r good (One from) meant one is =
    let key = source_key old r from good meant in
    let years : new.years ≡ changed from.day r old.years = ap (λ (b : Contents). b.years) is ∙ ap (λ o. changed_from o r old.years) meant in
    record {
      from = from;
      meant = meant;
      stood = key.there;
      left = record {
        each = λ k. ap (λ ys. run_at ys k) years ∙ change_years old r from good key k;
        plans = ap (λ (b : Contents). b.plans) is;
      };
    }
change_maps old new r good Empty meant one is = absurd one
change_maps old new r good Several meant one is = absurd one

withdraw_maps : (old new : Contents) (e : List ℕ) (w : When) → IsBook old → (o : InMonth) → withdrawal old.years e w ≡ o → IsOne o → new ≡ edits.edited_book (edits.withdraw e w) old → TakesMeantRun old new e w
withdraw_maps old new e w good (One from) meant one is =
    let years : new.years ≡ withdrawn from old.years = ap (λ (b : Contents). b.years) is ∙ ap (λ o. withdrawn_from o old.years) meant in
    record {
      from = from;
      meant = meant;
      stood = withdrawal_there old e w from good meant;
      left = record {
        each = λ k. ap (λ ys. run_at ys k) years ∙ runs_mapped.withdraw old.years from k good.order;
        plans = ap (λ (b : Contents). b.plans) is;
      };
    }
withdraw_maps old new e w good Empty meant one is = absurd one
withdraw_maps old new e w good Several meant one is = absurd one

pub edits_mapped : EditsAreMapped
edits_mapped = record {
  add = λ old new r a. record {
    each = λ k. ap (λ (b : Contents). run_at b.years k) a.1 ∙ runs_mapped.add old.years r k;
    plans = ap (λ (b : Contents). b.plans) a.1;
  };
  change = λ old new r good a. change_maps old new r good (source_of old.years r) refl a.0 a.1;
  withdraw = λ old new e w good a. withdraw_maps old new e w good (withdrawal old.years e w) refl a.0 a.1;
  load = λ old new rs own a. record {
    each = λ k. ap (λ (b : Contents). run_at b.years k) a.1 ∙ runs_mapped.load old.years rs k own;
    plans = ap (λ (b : Contents). b.plans) a.1;
  };
  put = λ old new e a. ap (λ (b : Contents). b.years) a.1;
  drop = λ old new d a. ap (λ (b : Contents). b.years) a.1;
}
