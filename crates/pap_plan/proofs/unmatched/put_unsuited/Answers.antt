use Rattle.std.proofs.Common.{◌+◌, map, take}
use Rattle.pap_tree.specs.Declarations.{Declaration, declaration_of}
use Rattle.pap_plan.specs.declared.refusal.PlanRefusal.TheVariants as refusals
use Rattle.pap_plan.specs.LimitFaults.{is_unsuited}
use Rattle.pap_plan.proofs.LimitFaultLemmas.{told_more, one_declared}
use Rattle.pap_plan.proofs.unmatched.put_unsuited.Goals as goal

pub loop-input-preserved : goal.loop-input-preserved
loop-input-preserved c =
    let l = c.loop-input in
    let i = l.input-index in
    let inputs = c.args.inputs.now in
    let input = c.input-item.result in
    told_more (λ (d : Declaration). refusals.LimitKind d.name) (is_unsuited c.args.ranges.now) (map declaration_of (take i inputs))
    (map declaration_of (take (i + 1) inputs)) (declaration_of input) c.is_unsuited-unsuited.result c.args.faults.now.items l.faults.items c.put_if.new.faults.items
    l.invariant c.in_ok-put_if.ensures c.is_unsuited-unsuited.ensures (one_declared inputs i input c.loop-input-test.true c.input-item.is)
