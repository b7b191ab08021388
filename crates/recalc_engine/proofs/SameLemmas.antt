-- A plan put in place of one with its texts changes nothing; a run that has a job is done.
use Rattle.std.proofs.Common.{◌≡◌, ℕ, List, [], ◌∷◌, Option, Some, None, true, false, if◌then◌else◌, Result, Ok, refl, sym, ap, subst, ◌∙◌}
use Rattle.std.specs.List.{AllByRecursion}
use Rattle.std.specs.Option.{option_and_then}
use Rattle.std.specs.declared.cmp.Ordering.{Ordering}
use Rattle.std.specs.declared.cmp.Ordering.TheVariants.{Less, Equal, Greater}
use Rattle.std.specs.Ordering.{is_eq, ordering_reverse}
use Rattle.std.specs.Cmp.{IsTotalOrder}
use Rattle.std.proofs.lemmas.Cmp.{tied_back, tied_itself}
use Rattle.rising_lists.specs.Keyed.{at_key, put, put_by, IsRising}
use Rattle.rising_lists.proofs.Laws.{above_more, at_key_above}
use Rattle.payroll_records.specs.declared.day.Day.{Day}
use Rattle.payroll_records.specs.declared.record.Record.{Record}
use Rattle.payroll_records.specs.Orders.{day_cmp}
use Rattle.payroll_records.proofs.Laws.{day_total, day_same}
use Rattle.plan_calendar.specs.Picking.{Entry, day_of, entry_at, pick, plan_of, with_entry}
use Rattle.carry_bindings.specs.declared.carried.Earlier.{Earlier}
use Rattle.carry_bindings.specs.declared.filling.Filled.{Filled}
use Rattle.carry_bindings.specs.declared.filling.Filled.TheVariants as filling
use Rattle.pap_plan.specs.Acceptance.{IsAccepted, Meaning}
use Rattle.pap_plan.specs.declared.refusal.PlanRefusal.{PlanRefusal}
use Rattle.pap_plan.proofs.Laws.{one}
use Rattle.pay_run.specs.Runs.{filled, run_outputs}
use Rattle.book_year.specs.Accepted.{Accepted}
use Rattle.book_year.specs.declared.outcome.State.TheVariants as state
use Rattle.book_year.specs.Jobs.{work_of}
use Rattle.book_year.specs.Records.{record_day}
use Rattle.book_year.specs.Rows.{Job, Row, row_filled, row_of}
use Rattle.book_year.proofs.Laws.{year_quiet}
use Rattle.book_edits.specs.Books.{AreInOrder, YearRuns, runs_key, runs_of, runs_or_none, year_cmp, year_of}
use Rattle.book_edits.specs.Kept.{jobs_in}
use Rattle.book_edits.proofs.Laws.{IsQuiet, at_key_tied, found_each, jobs_quiet, year_total}
use Rattle.recalc_engine.specs.BookLaws.{AreAcceptedPlans, HasTexts, IsBook, IsDoneBy, IsAcceptedPlan, JobsAreDone, SameTextsChangeNothing}
use Rattle.recalc_engine.specs.Contents.{Contents, jobs_between, row_at}
use Rattle.recalc_engine.proofs.RowLemmas.{run_on}

-- ---- what stands at a key, put again

module _ {K X : Type 0} (cmp : K → K → Ordering) (total : IsTotalOrder cmp) (key : X → K) where
  one_some : (x y : X) → ◌≡◌ {A = Option X} (Some x) (Some y) → x ≡ y
  one_some x y e = cc e

  no_some : (o : Option X) (y : X) → o ≡ None → o ≡ Some y → ⊥
  no_some o y e f = cc

  pub put_again : (xs : List X) (y : X) → IsRising cmp key xs → at_key cmp key xs (key y) ≡ Some y →
      put cmp key y xs ≡ xs
  put_again [] y rising h = cc
  put_again (x ∷ xs) y rising h = (elim (cmp (key y) (key x)) as (λ o. cmp (key y) (key x) ≡ o → put_by o y x xs (put cmp key y xs) ≡ x ∷ xs) [
    | Less ↦ λ e. absurd (no_some (at_key cmp key (x ∷ xs) (key y)) y
        (at_key_above cmp total key (key y) (key y) (x ∷ xs) (e, above_more cmp total key (key y) (key x) xs e rising.0) (tied_itself total (key y))) h)
    | Equal ↦ λ e.
        let here : at_key cmp key (x ∷ xs) (key y) ≡ Some x = ap (λ o. if is_eq o then Some x else at_key cmp key xs (key y)) (tied_back total (key y) (key x) e) in
        ap (λ t. t ∷ xs) (one_some y x (sym h ∙ here))
    | Greater ↦ λ e.
        let later : at_key cmp key (x ∷ xs) (key y) ≡ at_key cmp key xs (key y) = ap (λ o. if is_eq o then Some x else at_key cmp key xs (key y)) (total.antisymm (key x) (key y) ∙ ap ordering_reverse e) in
        ap (λ t. x ∷ t) (put_again xs y rising.1 (sym later ∙ h))
  ]) refl

-- ---- texts that are accepted have one meaning

same_meaning : (m n : Meaning) → ◌≡◌ {A = Result Meaning PlanRefusal} (Ok m) (Ok n) → m ≡ n
same_meaning m n e = cc e

make_plan : List ℕ → List ℕ → Meaning → Accepted
make_plan plan limits m = record { plan = plan; limits = limits; meaning = m }

one_meaning : (p q : Accepted) → IsAcceptedPlan p → IsAcceptedPlan q → p.plan ≡ q.plan → p.limits ≡ q.limits → p ≡ q
one_meaning p q hp hq plan limits =
    let hq' : IsAccepted p.plan p.limits q.meaning = subst (λ t. IsAccepted p.plan t q.meaning) (sym limits) (subst (λ t. IsAccepted t q.limits q.meaning) (sym plan) hq) in
    let m = same_meaning p.meaning q.meaning (one p.plan p.limits (Ok p.meaning) (Ok q.meaning) hp hq') in
    λ i. record { plan = plan i; limits = limits i; meaning = m i }

plan_at : (es : List (Entry Accepted)) (d : Day) (e : Entry Accepted) → AreAcceptedPlans es → entry_at es d ≡ Some e →
    IsAcceptedPlan (plan_of e)
plan_at [] d e all h = cc
plan_at (x ∷ es) d e all h = (elim (is_eq (day_cmp (day_of x) d)) as (λ b. (if b then Some x else entry_at es d) ≡ Some e → IsAcceptedPlan (plan_of e)) [
  | true ↦ λ g. subst (λ t. IsAcceptedPlan (plan_of t)) (one_entry x e g) all.0
  | false ↦ λ g. plan_at es d e all.1 g
]) h
  where
    one_entry : (x y : Entry Accepted) → ◌≡◌ {A = Option (Entry Accepted)} (Some x) (Some y) → x ≡ y
    one_entry x y e = cc e

-- the plans stay as they are
plans_stay : (book : Contents) (e : Entry Accepted) → IsBook book → IsAcceptedPlan (plan_of e) →
    HasTexts (entry_at book.plans (day_of e)) (plan_of e) → with_entry e book.plans ≡ book.plans
plans_stay book e is plan texts = by (entry_at book.plans (day_of e)) refl texts
  where
    by : (o : Option (Entry Accepted)) → entry_at book.plans (day_of e) ≡ o → HasTexts o (plan_of e) →
        with_entry e book.plans ≡ book.plans
    by None h t = absurd t
    by (Some x) h t =
        let day : day_of x ≡ day_of e = day_same (day_of x) (day_of e) (at_key_tied day_cmp day_of book.plans (day_of e) x h) in
        let p : plan_of x ≡ plan_of e = one_meaning (plan_of x) (plan_of e) (plan_at book.plans (day_of e) x is.plans h) plan t.0 t.1 in
        let same : x ≡ e = λ i. (day i, p i) in
        put_again day_cmp day_total day_of book.plans e is.entries.rising (h ∙ ap (λ t. Some t) same)

-- ---- a book has nothing to run against itself

quiet_all : (book : Contents) (ys : List YearRuns) →
    AllByRecursion (λ y. at_key year_cmp runs_key book.years y.key ≡ Some y) ys →
    AllByRecursion (λ y. IsRising day_cmp record_day y.runs) ys →
    AllByRecursion (IsQuiet (pick book.plans) book.years) ys
quiet_all book [] found days = tt
quiet_all book (y ∷ ys) found days =
    let runs : runs_of book.years y.key ≡ y.runs = ap runs_or_none found.0 in
    (rw runs (year_quiet (pick book.plans) y.runs days.0), quiet_all book ys found.1 days.1)

pub book_quiet : (book : Contents) → AreInOrder book.years → jobs_between book book ≡ []
book_quiet book order =
    jobs_quiet (pick book.plans) book.years book.years
    (quiet_all book book.years (found_each year_cmp year_total runs_key book.years order.rising) order.days)

pub same_texts : SameTextsChangeNothing
same_texts book e is plan texts =
    let stay = plans_stay book e is plan texts in
    let none : jobs_in (pick book.plans) (pick (with_entry e book.plans)) book.years book.years ≡ [] = ap (λ t. jobs_in (pick book.plans) (pick t) book.years book.years) stay ∙ book_quiet book is.order in
    record { jobs = none; book_is = λ i. record { years = book.years; plans = stay i; last = work_of (none i) } }

-- ---- a run that has a job is done

filled_done : (e : Entry Accepted) (d : Day) (f : Filled) (j : Job) → (row_filled e d f).job ≡ Some j →
    (row_filled e d f).state ≡ state.Done (run_outputs j.plan j.inputs)
filled_done e d (filling.Inputs inputs) j h =
    let same = one_job (record { plan = plan_of e; inputs = inputs }) j h in ap (λ (t : Job). state.Done (run_outputs t.plan t.inputs)) same
  where
    one_job : (x y : Job) → ◌≡◌ {A = Option Job} (Some x) (Some y) → x ≡ y
    one_job x y e = cc e
filled_done e d (filling.State why) j h = cc

row_done : (o : Option (Entry Accepted)) (earlier : List Earlier) (r : Record) (j : Job) →
    (row_of o earlier r).job ≡ Some j → (row_of o earlier r).state ≡ state.Done (run_outputs j.plan j.inputs)
row_done None earlier r j h = cc
row_done (Some e) earlier r j h = filled_done e r.day (filled (plan_of e) r.values earlier) j h

pub jobs_done : JobsAreDone
jobs_done book k j h = by (row_at book k) refl h
  where
    by : (o : Option Row) → row_at book k ≡ o → option_and_then (λ row. row.job) o ≡ Some j → IsDoneBy j o
    by None e g = cc
    by (Some row) e g =
        let run = run_on (pick book.plans) [] (runs_of book.years (year_of k)) k.day row e in
        let job : (row_of (pick book.plans k.day) run.earlier run.item).job ≡ Some j = sym (ap (λ (t : Row). t.job) run.is) ∙ g in
        ap (λ (t : Row). t.state) run.is ∙ row_done (pick book.plans k.day) run.earlier run.item j job
