-- Numbers that were put to the places of their names, one by one.
use Rattle.std.specs.Prelude.{◌≡◌, ℕ, Bool, if◌then◌else◌, List, [], ◌∷◌, None}
use Rattle.scaled_decimal.specs.Decimals.{Decimal}
use Rattle.payroll_records.specs.NamedValues.{value_at, with_value}
use Rattle.payroll_records.specs.ValueWords.{IsValueWord}
use Rattle.payroll_records.specs.declared.values.NamedValue.{NamedValue}

-- the numbers that were given, each under the name at its place
abbrev pub given_values : List (List ℕ) → List Decimal → List Bool → List NamedValue
given_values [] numbers given = []
given_values (n ∷ names) [] given = []
given_values (n ∷ names) (x ∷ numbers) [] = []
given_values (n ∷ names) (x ∷ numbers) (b ∷ given) =
    if b then record { name = n; value = x } ∷ given_values names numbers given
    else given_values names numbers given

-- the word gave one more value, under a name that had none
pub record GivesOne (word : List ℕ) (old new : List NamedValue) : Type 0 where
  pub value : NamedValue
  pub is : IsValueWord word value
  pub is_new : value_at old value.name ≡ None
  pub put : new ≡ with_value value old
