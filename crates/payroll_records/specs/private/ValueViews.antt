-- What private contracts cite beside the definitions of KeptValues.
use Rattle.std.specs.Prelude.{◌-◌, ◌&&◌, ℕ, Bool, true, false, List, drop, length, nat_le, take}
use Rattle.std.specs.List.{slice_get}
use Rattle.std.specs.Option.{option_map_or}
use Rattle.std.specs.Str.{bytes_eq}
use Rattle.std.specs.Ordering.{is_lt}
use Rattle.payroll_records.specs.NamedValues.{name_cmp}

-- the name goes behind all names of the list: the last one is below it, if there is one
abbrev pub is_beyond : List (List ℕ) → List ℕ → Bool
is_beyond names name =
    option_map_or (λ n. is_lt (name_cmp n name)) (slice_get names (length names - 1)) true

-- the name stands at this place of the list
abbrev pub stands_at : List (List ℕ) → ℕ → List ℕ → Bool
stands_at names i name = option_map_or (λ n. bytes_eq n name) (slice_get names i) false

-- the name goes before all names of the list: the first one is above it, if there is one
abbrev pub is_before : List (List ℕ) → List ℕ → Bool
is_before names name = option_map_or (λ n. is_lt (name_cmp name n)) (slice_get names 0) true

-- the name would go to this place of the list
abbrev pub goes_at : List (List ℕ) → ℕ → List ℕ → Bool
goes_at names i name =
    nat_le i (length names) && is_beyond (take i names) name && is_before (drop i names) name
