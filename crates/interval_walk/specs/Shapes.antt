-- What the range of an expression is like, by its kind.
use Rattle.std.specs.Prelude.{◌≤◌, ⊤}
use Rattle.scaled_decimal.specs.Limits.{most_places}
use Rattle.scaled_decimal.specs.WholeNumbers.{int_bits, long_bits}
use Rattle.interval_num.specs.Intervals.{Interval, IsWholeOfBits}
use Rattle.pap_types.specs.declared.kinds.NodeKind.{NodeKind}
use Rattle.pap_types.specs.declared.kinds.NodeKind.TheVariants.{Int, Long}

-- the range of a whole number has the bits of its kind
abbrev pub IsRangeOf : NodeKind → Interval → Type 0
IsRangeOf Int a = IsWholeOfBits int_bits a
IsRangeOf Long a = IsWholeOfBits long_bits a
IsRangeOf _ a = ⊤

-- the range is one of its kind: whole numbers have the bits of their kind, and nothing has more than 30
-- places
pub record HasShape (k : NodeKind) (a : Interval) : Type 0 where
  pub places : a.s_hi ≤ most_places
  pub suits : IsRangeOf k a
