-- What private contracts cite beside the definitions of ItemLevels.
use Rattle.std.specs.Prelude.{◌≡◌, ℕ, ◌<◌, ◌≤◌, suc, pos, unsigned_abs, int_lt, int_le, Bool, false, ◌||◌, List, [], ◌∷◌, ◌++◌, length, Result, Ok, Err}
use Rattle.scaled_decimal.specs.Decimals.{Decimal}
use Rattle.interval_num.specs.declared.cause.RangeCause.{RangeCause}
use Rattle.interval_num.specs.Intervals.{Interval}
use Rattle.interval_num.specs.Rows.{RowAnswer}

-- what is made of two intervals, where they are there
abbrev pub with_pair : (Interval → Interval → RowAnswer) → Result (Interval × Interval) RangeCause → RowAnswer
with_pair make (Ok p) = make p.0 p.1
with_pair make (Err cause) = Err cause

-- a run that isn't empty
abbrev pub IsSome : List Decimal → Type 0
IsSome run = 0 < length run

-- the items of some runs, one run after the other
abbrev pub items_of : List (List Decimal) → List Decimal
items_of [] = []
items_of (run ∷ runs) = run ++ items_of runs

-- some index may be outside so many items
abbrev pub may_be_outside : Interval → ℕ → Bool
may_be_outside index count = int_lt index.lo (pos 0) || int_le (pos count) index.hi

-- the least place of an index that is never outside so many items, and the place after its greatest
pub record ArePlaces (index : Interval) (count : ℕ) (places : ℕ × ℕ) : Type 0 where
  pub within : may_be_outside index count ≡ false
  pub first : places.0 ≡ unsigned_abs index.lo
  pub end : places.1 ≡ suc (unsigned_abs index.hi)
  pub some : places.0 < places.1
  pub inside : places.1 ≤ count
