-- The inputs of an accepted plan, in declared order.
use Rattle.std.specs.Prelude.{◌≡◌, ℕ, List, Option, Some}
use Rattle.std.specs.List.{AllZip, find}
use Rattle.std.specs.Option.{option_map}
use Rattle.std.specs.Str.{bytes_eq}
use Rattle.pap_tree.specs.Declarations.{Declaration}
use Rattle.limits_file.specs.declared.limits.Limits.{Limits}
use Rattle.limits_file.specs.declared.limits.Carry.{Carry}
use Rattle.limits_file.specs.declared.slots.Slot.{Slot}
use Rattle.pap_types.specs.Scopes.{literal_decimal}
use Rattle.limits_file.specs.Limits.{limit_named}

-- what the input of a name carries over, where it is bound
abbrev pub carry_named : Limits → List ℕ → Option Carry
carry_named l x = option_map (λ b. b.carry) (find (λ b. bytes_eq b.input x) l.bindings)

-- an input with its type, its limit, its default as it is written, and what it carries over
pub record IsSlot (l : Limits) (d : Declaration) (s : Slot) : Type 0 where
  pub name : s.name ≡ d.name
  pub kind : s.kind ≡ d.kind
  pub limit : limit_named l d.name ≡ Some s.limit
  pub value : s.value ≡ option_map literal_decimal d.value
  pub carry : s.carry ≡ carry_named l d.name

-- these are the inputs of a plan in declared order, each with its limit
abbrev pub AreSlots : Limits → List Declaration → List Slot → Type 0
AreSlots l declarations slots = AllZip (IsSlot l) declarations slots
