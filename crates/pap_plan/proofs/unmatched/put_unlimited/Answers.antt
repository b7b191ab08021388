use Rattle.std.proofs.Common.{◌+◌, map, take, not, ap}
use Rattle.pap_tree.specs.Declarations.{Declaration, declaration_of}
use Rattle.pap_plan.specs.declared.refusal.PlanRefusal.TheVariants as refusals
use Rattle.pap_plan.specs.Bindings.{has_limit}
use Rattle.pap_plan.proofs.LimitFaultLemmas.{told_more, one_declared}
use Rattle.pap_plan.proofs.unmatched.put_unlimited.Goals as goal

pub loop-input-preserved : goal.loop-input-preserved
loop-input-preserved c =
    let l = c.loop-input in
    let i = l.input-index in
    let inputs = c.args.inputs.now in
    let ranges = c.args.ranges.now in
    let input = c.input-item.result in
    told_more (λ (d : Declaration). refusals.LimitName d.name) (λ d. not (has_limit ranges d.name)) (map declaration_of (take i inputs))
    (map declaration_of (take (i + 1) inputs)) (declaration_of input) (not c.has_limit-limited.result) c.args.faults.now.items l.faults.items c.put_if.new.faults.items
    l.invariant c.in_ok-put_if.ensures (ap not c.has_limit-limited.ensures) (one_declared inputs i input c.loop-input-test.true c.input-item.is)
