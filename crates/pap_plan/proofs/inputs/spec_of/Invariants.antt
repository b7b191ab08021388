use Rattle.std.proofs.Common.{◌≡◌, None, map, drop}
use Rattle.pap_tree.specs.Declarations.{declaration_of}
use Rattle.pap_tree.specs.Flowchart.{flowchart_of}
use Rattle.pap_plan.specs.Bindings.{input_without_limit}
use Rattle.pap_plan.proofs.SlotLemmas.{AreSlotsBefore}
use Rattle.pap_plan.proofs.inputs.spec_of.Given as goal

abbrev pub invariant-loop-input : goal.invariant-loop-input
invariant-loop-input l = input_without_limit (flowchart_of l.plan) l.ranges ≡ None
    → AreSlotsBefore l.ranges (map declaration_of l.plan.inputs.items) (map declaration_of (drop l.input-index l.plan.inputs.items)) l.slots.items
