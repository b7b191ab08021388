-- What the parts of a binding's entry give.
use Rattle.std.specs.Prelude.{◌≡◌, Bool, true}
use Rattle.std.specs.List.{list_all}
use Rattle.toml.specs.Data.{Members}
use Rattle.limits_file.specs.declared.limits.Carry.{Carry}
use Rattle.limits_file.specs.Entries.{has_key}
use Rattle.limits_file.specs.Bindings.{binding_form, IsCarryOf}

-- each key that the entry needs is there
abbrev pub is_whole : Members → Bool
is_whole entry = list_all (has_key entry) (binding_form.needed entry)

-- the entry has each key that it needs, and they say this together
pub record GivesCarry (entry : Members) (carry : Carry) : Type 0 where
  pub carry_of : IsCarryOf entry carry
  pub whole : is_whole entry ≡ true
