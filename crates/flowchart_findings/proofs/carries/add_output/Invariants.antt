use Rattle.std.proofs.Common.{◌≡◌, ◌++◌, drop}
use Rattle.std.specs.List.{flat_map}
use Rattle.flowchart_findings.specs.Carries.{carry_finding}
use Rattle.flowchart_findings.proofs.carries.add_output.Given as goal

abbrev pub invariant-loop-binding : goal.invariant-loop-binding
invariant-loop-binding l =
    l.out.items ++ flat_map (carry_finding l.limits l.site l.places) (drop l.binding-index l.binding-items)
    ≡ l.initial.out.items ++ flat_map (carry_finding l.limits l.site l.places) l.binding-items
