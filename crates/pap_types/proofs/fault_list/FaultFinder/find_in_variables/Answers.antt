use Rattle.std.proofs.Common.{◌++◌, map, subst}
use Rattle.std.proofs.lemmas.Result.{on_ok_weaker}
use Rattle.pap_tree.specs.Declarations.{declaration_of}
use Rattle.pap_tree.specs.Flowchart.{flowchart_of}
use Rattle.pap_types.specs.private.FaultViews.{FindsNames}
use Rattle.pap_types.proofs.NameFaultLemmas.{finds_both}
use Rattle.pap_types.proofs.fault_list.FaultFinder.find_in_variables.Goals as goal

pub returns : goal.returns
returns c =
    let f = flowchart_of c.args.plan.now in
    let earlier = c.args.none.now in
    let old = c.args.names.now in
    let inputs = c.find_declared.new.names in
    let outputs = c.find_declared-2.new.names in
    let internals = c.find_declared-3.new.names in
    let first = c.args.self.now.faults.items in
    let second = c.find_declared.new.self.faults.items in
    let third = c.find_declared-2.new.self.faults.items in
    let last = c.find_declared-3.new.self.faults.items in
    on_ok_weaker c.find_declared-3.result
    (λ k. finds_both earlier old inputs internals first second last f.inputs (f.outputs ++ f.internals)
    (subst (λ ds. FindsNames earlier old inputs first second (map declaration_of ds)) c.deref.ensures.value c.in_ok-find_declared.ensures)
    (finds_both earlier inputs outputs internals second third last f.outputs f.internals
    (subst (λ ds. FindsNames earlier inputs outputs second third (map declaration_of ds)) c.deref-2.ensures.value c.in_ok-find_declared-2.ensures)
    (subst (λ ds. FindsNames earlier outputs internals third last (map declaration_of ds)) c.deref-3.ensures.value k)))
    c.find_declared-3.ensures
