-- The values of a record: what stands under each name.
use Rattle.std.specs.Prelude.{◌≤◌, ◌+◌, ℕ, List, [], ◌∷◌, Option, Some, None, length, option_map, if◌then◌else◌}
use Rattle.std.specs.declared.cmp.Ordering.{Ordering}
use Rattle.std.specs.Ordering.{nat_cmp}
use Rattle.std.specs.Str.{bytes_eq}
use Rattle.std.specs.Cmp.Lexicographic.{slice_cmp}
use Rattle.rising_lists.specs.Keyed.{at_key, put, IsRising}
use Rattle.payroll_records.specs.Limits.{most_values}
use Rattle.payroll_records.specs.declared.values.NamedValue.{NamedValue}

-- the order of names by their bytes
abbrev pub name_cmp : List ℕ → List ℕ → Ordering
name_cmp = slice_cmp nat_cmp

-- the name of a value
abbrev pub name_of : NamedValue → List ℕ
name_of v = v.name

-- a record's values: their names rise, and there are at most so many
pub record AreValues (values : List NamedValue) : Type 0 where
  pub rising : IsRising name_cmp name_of values
  pub few : length values ≤ most_values

-- what stands under a name
abbrev pub value_at : List NamedValue → List ℕ → Option NamedValue
value_at values name = at_key name_cmp name_of values name

-- how many values stand before the one of a name
abbrev pub place_at : List NamedValue → List ℕ → Option ℕ
place_at [] name = None
place_at (v ∷ values) name =
    if bytes_eq v.name name then Some 0 else option_map (λ i. i + 1) (place_at values name)

-- the values with one more
abbrev pub with_value : NamedValue → List NamedValue → List NamedValue
with_value v values = put name_cmp name_of v values
