-- What private contracts cite.
use Rattle.std.specs.Prelude.{◌≡◌, ◌≤◌, List, [], ◌∷◌, length, map, Ok, Err}
use Rattle.scaled_decimal.specs.Decimals.{Decimal}
use Rattle.interval_num.specs.Rows.{RowAnswer, join_row, decimals_row}

-- the range of what two runs of items have together, where both have one
abbrev pub joined_answers : RowAnswer → RowAnswer → RowAnswer
joined_answers (Ok a) (Ok b) = join_row a b
joined_answers (Ok a) (Err cause) = Err cause
joined_answers (Err cause) right = Err cause

-- the joined_answers ranges of each two neighbours, an odd last one as it is
abbrev pub halved : List RowAnswer → List RowAnswer
halved [] = []
halved (r ∷ []) = r ∷ []
halved (r ∷ (s ∷ rs)) = joined_answers r s ∷ halved rs

-- the range of each item alone
abbrev pub single_rows : List Decimal → List RowAnswer
single_rows items = map (λ d. decimals_row (d ∷ [])) items

-- the first of some levels, or an empty one where there is none
abbrev pub first_level : List (List RowAnswer) → List RowAnswer
first_level [] = []
first_level (level ∷ levels) = level

-- each level is the one before it, halved, up to one of at most one range
abbrev pub AreLevels : List (List RowAnswer) → Type 0
AreLevels [] = Unit {0}
AreLevels (level ∷ []) = length level ≤ 1
AreLevels (level ∷ (next ∷ levels)) = (next ≡ halved level) × AreLevels (next ∷ levels)

-- levels that begin with the range of each item alone
pub record AreLevelsOf (items : List Decimal) (levels : List (List RowAnswer)) : Type 0 where
  pub first : first_level levels ≡ single_rows items
  pub halves : AreLevels levels
