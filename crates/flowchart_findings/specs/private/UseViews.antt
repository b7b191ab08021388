-- Names as they are added.
use Rattle.std.specs.Prelude.{◌≡◌, List, ◌++◌}
use Rattle.std.specs.List.{flat_map}
use Rattle.pap_tree.specs.Flowchart.{Body, Routine}
use Rattle.flowchart_findings.specs.declared.uses.Uses.{Uses}
use Rattle.flowchart_findings.specs.Uses.{read_in, assigned_in}

-- the names that some statements read and assign are added
pub record AddsUses (body : Body) (before after : Uses) : Type 0 where
  pub read : after.read.items ≡ before.read.items ++ read_in body
  pub assigned : after.assigned.items ≡ before.assigned.items ++ assigned_in body

-- those of methods are added
pub record AddsMethodUses (methods : List Routine) (before after : Uses) : Type 0 where
  pub read : after.read.items ≡ before.read.items ++ flat_map (λ m. read_in m.body) methods
  pub assigned : after.assigned.items ≡ before.assigned.items ++ flat_map (λ m. assigned_in m.body) methods
