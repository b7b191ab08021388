use Rattle.std.proofs.Common.{◌≡◌, ◌+◌, ◌-◌, length, sym, ap, ◌∙◌, arith}
use Rattle.std.specs.Prelude.{Some}
use Rattle.std.specs.Ordering.{is_lt}
use Rattle.std.specs.declared.cmp.Ordering.TheVariants.{Less}
use Rattle.std.specs.List.{slice_get}
use Rattle.std.proofs.Math.ListN.{length-map}
use Rattle.payroll_records.specs.Orders.{day_cmp}
use Rattle.payroll_records.proofs.Laws.{day_total}
use Rattle.saved_items.specs.private.ItemDecisions.{IsLater}
use Rattle.saved_items.specs.private.ItemViews.{plans_of}
use Rattle.saved_items.specs.SavedBooks.{SavedPlan, saved_day}
use Rattle.saved_items.specs.ItemFaults.{plan_in}
use Rattle.saved_items.proofs.ValueListLemmas.{last_above, all_get, by_less, last_of_map}
use Rattle.saved_items.proofs.next.is_later.Goals as goal

pub returns-in-Some : goal.returns-in-Some
returns-in-Some c = λ p same.
    let plans = c.args.plans.now in
    let last = plan_in c.in-Some.last.now in
    let there : slice_get (plans_of plans) (length plans - 1) ≡ Some last = last_of_map plan_in plans
    (length plans - 1) c.in-Some.last.now (sym c.in-Some.ensures.value) in
    let long : length (plans_of plans) ≡ length plans - 1 + 1 = omega
    (arith, length-map plans plan_in, c.in-Some.ensures.item.3.0) in
    by_less (day_cmp last.day c.args.day) c.is_lt.result (IsLater (plans_of plans) p)
    (c.is_lt.ensures ∙ ap is_lt c.cmp.ensures)
    (λ less. last_above day_cmp day_total saved_day (plans_of plans) (length plans - 1) last p.day c.requires long there
    (ap (day_cmp last.day) same ∙ less))
    (λ all. ap (day_cmp last.day) (sym same) ∙ all_get (λ (q : SavedPlan). day_cmp (saved_day q) (saved_day p) ≡ Less)
    (plans_of plans) (length plans - 1) last all there)
