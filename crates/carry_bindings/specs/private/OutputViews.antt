-- Where outputs stand in earlier runs.
use Rattle.std.specs.Prelude.{◌≡◌, ℕ, zero, suc, Bool, true, List, Option, Some, None, map, option_map, option_and_then, position, slice_get}
use Rattle.std.specs.Borrow.{Bor}
use Rattle.std.specs.Str.{bytes_eq}
use Rattle.payroll_records.specs.declared.values.NamedValue.{NamedValue}
use Rattle.payroll_records.specs.NamedValues.{name_of}
use Rattle.carry_bindings.specs.declared.carried.Earlier.{Earlier}

-- the names of a run's outputs in their order, where the run is ok
abbrev pub names_in : Earlier → Option (List (List ℕ))
names_in e = option_map (map name_of) e.outputs

abbrev pub lent_names : Option (Bor (List NamedValue)) → Option (List (List ℕ))
lent_names outputs = option_map (λ l. map name_of l.now) outputs

-- those of the run before the one at a place; there is none before the first
abbrev pub names_before : List Earlier → ℕ → Option (List (List ℕ))
names_before earlier zero = None
names_before earlier (suc i) = option_and_then names_in (slice_get earlier i)

-- a run that is marked has outputs of the same names, in the same order, as the run before
abbrev pub AreAlike : List Bool → List Earlier → Type 0
AreAlike marks earlier =
    (i : ℕ) → slice_get marks i ≡ Some true
    → names_before earlier i ≡ names_before earlier (suc i)

-- the first place of a name
abbrev pub place_in : List ℕ → Option (List (List ℕ)) → Option ℕ
place_in name names = option_and_then (position (λ n. bytes_eq n name)) names
