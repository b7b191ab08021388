use Rattle.std.proofs.Common.{◌+◌, take, not, ap}
use Rattle.pap_tree.specs.Flowchart.{flowchart_of}
use Rattle.limits_file.specs.declared.limits.InputLimit.{InputLimit}
use Rattle.pap_plan.specs.declared.refusal.PlanRefusal.TheVariants as refusals
use Rattle.pap_plan.specs.Bindings.{is_input}
use Rattle.pap_plan.proofs.LimitFaultLemmas.{told_more, one_taken}
use Rattle.pap_plan.proofs.unmatched.put_nameless.Goals as goal

pub loop-limit-preserved : goal.loop-limit-preserved
loop-limit-preserved c =
    let l = c.loop-limit in
    let i = l.limit-index in
    let limits = c.args.limits.now in
    let limit = c.limit-item.result in
    told_more (λ (l : InputLimit). refusals.LimitName l.name) (λ l. not (is_input (flowchart_of c.args.plan.now) l.name)) (take i limits)
    (take (i + 1) limits) limit (not c.is_input-named.result) c.args.faults.now.items l.faults.items c.put_if.new.faults.items
    l.invariant c.in_ok-put_if.ensures (ap not c.is_input-named.ensures) (one_taken limits i limit c.loop-limit-test.true c.limit-item.is)
