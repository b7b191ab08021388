use Rattle.std.proofs.Common.{◌++◌, map, ap, ◌∙◌}
use Rattle.pap_tree.specs.Declarations.{declaration_of}
use Rattle.pap_tree.specs.Flowchart.{flowchart_of}
use Rattle.pap_plan.specs.LimitFaults.{unlimited_faults, nameless_faults, unsuited_faults, stray_faults}
use Rattle.pap_plan.proofs.LimitFaultLemmas.{four_told}
use Rattle.pap_plan.proofs.unmatched.limit_faults.Goals as goal

pub returns : goal.returns
returns c =
    let f = flowchart_of c.args.plan.now in
    let l = c.args.ranges.now in
    let none = c.new-faults.result.items in
    let one = c.put_unlimited.new.faults.items in
    let two = c.put_nameless.new.faults.items in
    let three = c.put_unsuited.new.faults.items in
    let four = c.put_stray.new.faults.items in
    four_told none one two three four (unlimited_faults l f.inputs) (nameless_faults f l.inputs) (unsuited_faults l f.inputs) (stray_faults f l l.bindings)
    c.new-faults.ensures.items
    (c.in_ok-put_unlimited.ensures ∙ ap (λ ds. none ++ unlimited_faults l (map declaration_of ds)) c.deref.ensures.value)
    (c.in_ok-put_nameless.ensures ∙ ap (λ ls. one ++ nameless_faults f ls) c.as_slice.ensures)
    (c.in_ok-put_unsuited.ensures ∙ ap (λ ds. two ++ unsuited_faults l (map declaration_of ds)) c.deref-2.ensures.value)
    c.in_ok-put_stray.ensures
