-- An entry of `[input]`: the range of an input.
use Rattle.std.specs.Prelude.{◌≡◌, ℕ, ◌<◌, ◌≤◌, Bool, false, ◌||◌, ◌⊎◌, List, [], ◌∷◌, Some, None, Result, Ok, Err, codes, option_map, pos}
use Rattle.std.specs.Str.{bytes_eq}
use Rattle.toml.specs.Data.{Data, string, integer, Members, get_member}
use Rattle.scaled_decimal.specs.Decimals.{Decimal, decimal}
use Rattle.scaled_decimal.specs.Limits.{IsKept}
use Rattle.scaled_decimal.specs.NumberTexts.{Spells}
use Rattle.pap_tree.specs.Limits.{most_inputs}
use Rattle.limits_file.specs.declared.limits.InputLimit.{InputLimit}
use Rattle.limits_file.specs.Labels.{label_of}
use Rattle.limits_file.specs.Limits.{HasSoundBounds}
use Rattle.limits_file.specs.Faults.{Fault, bad_key, bad_bound}
use Rattle.limits_file.specs.Entries.{EntryForm, entry_members, failing_key}

-- the keys of the two bounds
abbrev pub is_bound_key : List ℕ → Bool
is_bound_key key = bytes_eq key (codes "low") || bytes_eq key (codes "high")

-- `low` and `high` are whole numbers or texts, `places` is a whole number
abbrev pub suits_input : List ℕ → Data → Bool
suits_input key (integer z) = is_bound_key key || bytes_eq key (codes "places")
suits_input key (string text) = is_bound_key key
suits_input key value = false

-- an entry of `[input]`: two bounds and `places`
abbrev pub input_form : EntryForm
input_form = record {
  suits = λ entry. suits_input;
  needed = λ entry. codes "low" ∷ codes "high" ∷ codes "places" ∷ [];
}

-- a bound is a whole number, or a text that spells a decimal
abbrev pub IsBound : Data → Decimal → Type 0
IsBound (integer z) bound = bound ≡ decimal z 0
IsBound (string text) bound = Spells text bound × IsKept bound
IsBound value bound = ⊥

-- the key of an entry has a value that is this bound
pub record IsBoundAt (key : List ℕ) (entry : Members) (bound : Decimal) : Type 0 where
  pub value : Data
  pub stands : get_member key entry ≡ Some value
  pub is : IsBound value bound

-- the key is missing, or its value isn't a bound
abbrev pub HasNoBoundAt : List ℕ → Members → Type 0
HasNoBoundAt key entry = (bound : Decimal) → IsBoundAt key entry bound → ⊥

-- the value of `places` is this whole number
abbrev pub SaysPlaces : Members → ℕ → Type 0
SaysPlaces entry places = get_member (codes "places") entry ≡ Some (integer (pos places))

-- the value of `places` isn't a whole number from 0 to 255
abbrev pub HasNoPlaces : Members → Type 0
HasNoPlaces entry = (places : ℕ) → places ≤ 255 → SaysPlaces entry places → ⊥

-- the limit that an entry of this name gives, by the rule for bounds
pub record IsLimitOf (name : List ℕ) (entry : Members) (limit : InputLimit) : Type 0 where
  pub named : limit.name ≡ name
  pub low : IsBoundAt (codes "low") entry limit.low
  pub high : IsBoundAt (codes "high") entry limit.high
  pub places : SaysPlaces entry limit.places
  pub sound : HasSoundBounds limit

-- no limit of this name is given by the entry
abbrev pub GivesNoLimit : List ℕ → Members → Type 0
GivesNoLimit name entry = (limit : InputLimit) → IsLimitOf name entry limit → ⊥

-- An entry that n others stand before: its limit, the key at which it fails, or else that its bounds break their rule or
-- that there are too many inputs.
abbrev pub InputSays : ℕ → List ℕ → Data → Result InputLimit Fault → Type 0
InputSays n name value (Ok limit) =
    (failing_key input_form name value ≡ None) × (n < most_inputs)
    × IsLimitOf name (entry_members value) limit
InputSays n name value (Err (bad_key label)) =
    option_map label_of (failing_key input_form name value) ≡ Some label
InputSays n name value (Err (bad_bound label)) =
    (failing_key input_form name value ≡ None) × (label ≡ label_of name)
    × ((most_inputs ≤ n) ⊎ GivesNoLimit name (entry_members value))
InputSays n name value (Err other) = ⊥
