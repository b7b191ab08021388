use Rattle.std.proofs.Common.{◌+◌, take}
use Rattle.pap_tree.specs.Flowchart.{flowchart_of}
use Rattle.limits_file.specs.declared.limits.Binding.{Binding}
use Rattle.pap_plan.specs.declared.refusal.PlanRefusal.TheVariants as refusals
use Rattle.pap_plan.specs.LimitFaults.{is_stray}
use Rattle.pap_plan.proofs.LimitFaultLemmas.{told_more, one_taken}
use Rattle.pap_plan.proofs.unmatched.put_stray.Goals as goal

pub loop-binding-preserved : goal.loop-binding-preserved
loop-binding-preserved c =
    let l = c.loop-binding in
    let i = l.binding-index in
    let bindings = c.as_slice-binding-items.result.now in
    let binding = c.binding-item.result in
    told_more (λ (b : Binding). refusals.Bind b.input) (is_stray (flowchart_of c.args.plan.now) c.args.ranges.now) (take i bindings)
    (take (i + 1) bindings) binding c.is_stray-stray.result c.args.faults.now.items l.faults.items c.put_if.new.faults.items
    l.invariant c.in_ok-put_if.ensures c.is_stray-stray.ensures (one_taken bindings i binding c.loop-binding-test.true c.binding-item.is)
