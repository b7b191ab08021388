-- Why a plan is refused.
use Rattle.std.specs.Prelude.{◌≡◌, Some, ⊤}
use Rattle.pap_tree.specs.Flowchart.{Flowchart}
use Rattle.pap_types.specs.declared.fault.TypeFault.{TypeFault}
use Rattle.pap_types.specs.declared.fault.TypeFault.TheVariants.{Memory}
use Rattle.pap_types.specs.Checks.{type_fault}

-- the fault of the first check that doesn't pass; memory may run out at any plan
abbrev pub IsTypeFault : Flowchart → TypeFault → Type 0
IsTypeFault f (Memory e) = ⊤
IsTypeFault f fault = type_fault f ≡ Some fault
