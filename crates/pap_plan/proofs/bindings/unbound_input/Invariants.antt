use Rattle.std.proofs.Common.{◌≡◌, drop}
use Rattle.pap_tree.specs.Flowchart.{flowchart_of}
use Rattle.pap_plan.proofs.BindingLemmas.{unbound_among}
use Rattle.pap_plan.proofs.bindings.unbound_input.Given as goal

abbrev pub invariant-loop-binding : goal.invariant-loop-binding
invariant-loop-binding l = unbound_among (flowchart_of l.plan) l.ranges (drop l.binding-index l.binding-items) ≡ unbound_among (flowchart_of l.plan) l.ranges l.binding-items
