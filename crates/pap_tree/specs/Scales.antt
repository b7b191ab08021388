-- The places of decimals, of a tree's literals, and the scales that it writes.
use Rattle.std.specs.Prelude.{ℕ, ◌≤◌, Bool, ◌&&◌, nat_le, unsigned_abs, ⊤}
use Rattle.scaled_decimal.specs.Decimals.{Decimal, scale_of, numerator_at}
use Rattle.scaled_decimal.specs.Limits.{limit, most_places}
use Rattle.pap_tree.specs.Term.{Leaf, point, One, value_of_scaled, set_scale, Two, divide, Term, leaf, item, one, two, choice}

-- whether a decimal has at most so many places, and at so many places a numerator of at most 10^37
abbrev pub is_kept_at : ℕ → Decimal → Bool
is_kept_at places d = nat_le (scale_of d) places && nat_le (unsigned_abs (numerator_at places d)) limit

-- a literal with a point has a place at least
abbrev pub HasPlaces : Leaf → Type 0
HasPlaces (point d) = 1 ≤ scale_of d
HasPlaces _ = ⊤

-- a written scale is at most 30
abbrev pub OneKeepsScale : One → Type 0
OneKeepsScale (value_of_scaled s) = s ≤ most_places
OneKeepsScale (set_scale s mode) = s ≤ most_places
OneKeepsScale _ = ⊤

-- the scale of a rounded division is at most 30
abbrev pub TwoKeepsScale : Two → Type 0
TwoKeepsScale (divide s mode) = s ≤ most_places
TwoKeepsScale _ = ⊤

-- both, of each node of an expression
abbrev pub KeepsScales : Term → Type 0
KeepsScales (leaf l) = HasPlaces l
KeepsScales (item x e) = KeepsScales e
KeepsScales (one op e) = OneKeepsScale op × KeepsScales e
KeepsScales (two op e f) = TwoKeepsScale op × KeepsScales e × KeepsScales f
KeepsScales (choice c e f) = KeepsScales c × KeepsScales e × KeepsScales f
