use Rattle.std.proofs.Common.{map, drop}
use Rattle.pap_tree.specs.Declarations.{declaration_of}
use Rattle.pap_plan.proofs.BindingLemmas.{AreSuited}
use Rattle.pap_plan.proofs.bindings.first_unsuited.Given as goal

abbrev pub invariant-loop-input : goal.invariant-loop-input
invariant-loop-input l = AreSuited l.ranges (map declaration_of l.plan.inputs.items) (map declaration_of (drop l.input-index l.plan.inputs.items))
