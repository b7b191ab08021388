-- What is found of entries so far.
use Rattle.std.specs.Prelude.{◌≡◌, ℕ, ◌<◌, ◌⊎◌, true, if◌then◌else◌, List, ◌++◌, Option, None}
use Rattle.toml.specs.Data.{Data, Members, as_table}
use Rattle.pap_tree.specs.Names.{is_name}
use Rattle.limits_file.specs.declared.limits.InputLimit.{InputLimit}
use Rattle.limits_file.specs.Entries.{entry_members}
use Rattle.limits_file.specs.Inputs.{GivesNoLimit, IsLimitOf}
use Rattle.range_faults.specs.declared.fault.EntryFault.{EntryFault}

-- such faults came behind those before
pub record Adds (Are : List EntryFault → Type 0) (before after : List EntryFault) : Type 0 where
  pub own : List EntryFault
  pub are : Are own
  pub is : after ≡ before ++ own

-- the entry of a key that is the name of an input
abbrev pub named_entry : List ℕ → Data → Option Members
named_entry name value = if is_name name then as_table value else None

-- the entry is of no name, or gives no limit of it
abbrev pub LacksLimit : List ℕ → Data → Type 0
LacksLimit name value = is_name name ≡ true → GivesNoLimit name (entry_members value)

-- there is room for an input, and its entry gives a limit
abbrev pub IsAccepted : ℕ → List ℕ → Data → Type 0
IsAccepted room name value =
    (0 < room) × ((limit : InputLimit) × IsLimitOf name (entry_members value) limit)

-- there is no room for an input, or its entry gives no limit
abbrev pub IsUnaccepted : ℕ → List ℕ → Data → Type 0
IsUnaccepted room name value = (room ≡ 0) ⊎ LacksLimit name value
