use Rattle.std.proofs.Common.{arith, map, sym, ◌∙◌}
use Rattle.std.proofs.lemmas.Result.{err_from_is_err_and}
use Rattle.saved_items.specs.ItemFaults.{plan_in}
use Rattle.book_file.specs.private.Views.{HasNoPlan}
use Rattle.book_file.proofs.ReadLemmas.{err_holds, item_accepted, item_refused, ok_from_not_err}
use Rattle.book_file.proofs.plans.accept_plans.Goals as goal

pub returns-in_err-plan-clause-refused : goal.returns-in_err-plan-clause-refused
returns-in_err-plan-clause-refused c =
    let p = err_from_is_err_and c.from_residual.result c.from_residual.ensures.1 in
    let given = c.in_err-plan.field-0.0 in
    err_holds c.from_residual.result (HasNoPlan (map plan_in c.args.items.now)) p.0 given p.1 p.2
    (item_refused c.args.items.now c.loop-item.item-index c.item-item.result (omega arith) c.item-item.is c.loop-item.plans given c.loop-item.invariant
    c.in_err-plan.ensures.refused)

pub loop-item-preserved : goal.loop-item-preserved
loop-item-preserved c =
    item_accepted c.args.items.now c.loop-item.item-index c.item-item.result (omega arith) c.item-item.is c.loop-item.plans c.put.new.self c.in_ok-plan.plan
    c.requires c.loop-item.invariant c.in_ok-plan.ensures.ok
    (ok_from_not_err c.put.result _ (sym c.is_err.ensures.value ∙ c.if-is_err.false) c.put.ensures.ok)
