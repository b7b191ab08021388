use Rattle.std.proofs.Common.{◌≡◌, ◌∷◌, map, take}
use Rattle.pap_tree.specs.Names.{main_name}
use Rattle.pap_tree.specs.Flowchart.{routine_of}
use Rattle.pap_types.specs.Routines.{method_names}
use Rattle.coverage_text.proofs.items.all_names.Given as goal

abbrev pub invariant-loop-method : goal.invariant-loop-method
invariant-loop-method l =
    l.names.items ≡ main_name ∷ method_names (map routine_of (take l.method-index l.methods))
