-- How the values of a record are kept: a list of their names, and a list of the numbers.
use Rattle.std.specs.Prelude.{◌≡◌, ◌≤◌, ℕ, List, [], ◌∷◌, length}
use Rattle.std.specs.Rc.{rc_slice_items}
use Rattle.scaled_decimal.specs.Decimals.{Decimal}
use Rattle.rising_lists.specs.Keyed.{IsRising}
use Rattle.payroll_records.specs.Limits.{most_values}
use Rattle.payroll_records.specs.NamedValues.{AreValues, name_cmp}
use Rattle.payroll_records.specs.declared.names.Names.{Names}
use Rattle.payroll_records.specs.declared.names.Names.TheVariants.{Own, Shared}
use Rattle.payroll_records.specs.declared.values.NamedValue.{NamedValue}

-- the names, wherever they are kept
abbrev pub listed : Names → List (List ℕ)
listed (Own names) = names.items
listed (Shared names) = rc_slice_items names

-- each number under the name at its place
abbrev pub named_numbers : List (List ℕ) → List Decimal → List NamedValue
named_numbers [] numbers = []
named_numbers (n ∷ names) [] = []
named_numbers (n ∷ names) (x ∷ numbers) = record { name = n; value = x } ∷ named_numbers names numbers

-- names in order of their bytes, which differ, and as many as a record may have
pub record AreNames (names : List (List ℕ)) : Type 0 where
  pub rising : IsRising name_cmp (λ n. n) names
  pub few : length names ≤ most_values

-- names and numbers that a record's values are kept as
pub record IsKeptAs (names : List (List ℕ)) (numbers : List Decimal) : Type 0 where
  pub same : length names ≡ length numbers
  pub are : AreValues (named_numbers names numbers)
