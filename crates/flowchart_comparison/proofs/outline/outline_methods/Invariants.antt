use Rattle.std.proofs.Common.{◌≡◌, ◌∷◌, map, take}
use Rattle.pap_tree.specs.Names.{main_name}
use Rattle.pap_tree.specs.Flowchart.{body_of, Routine, routine_of}
use Rattle.flowchart_comparison.specs.Outlines.{lined}
use Rattle.flowchart_comparison.proofs.outline.outline_methods.Given as goal

abbrev pub invariant-loop-method : goal.invariant-loop-method
invariant-loop-method l =
    l.methods.items
    ≡ lined main_name (body_of l.main)
    ∷ map (λ (m : Routine). lined m.name m.body) (map routine_of (take l.method-index l.others))
