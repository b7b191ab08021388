-- Roundings of a quotient over unbounded whole numbers, as java.math.RoundingMode documents them: all but UNNECESSARY.
-- Source: the documentation of java.math.RoundingMode.
use Rattle.std.specs.Prelude.{◌≡◌, ◌≢◌, ◌*◌, ◌<◌, ◌≤◌, ◌%◌, ℤ, pos, negsuc, ◌+ℤ◌, ◌-ℤ◌, ◌*ℤ◌, neg_ℤ, ◌≤ℤ◌, ◌<ℤ◌, unsigned_abs}
use Rattle.scaled_decimal.specs.declared.rounding.Mode.{Mode}
use Rattle.scaled_decimal.specs.declared.rounding.Mode.TheVariants.{Down, Up, Floor, Ceiling, HalfUp, HalfDown, HalfEven}

-- q is n / d rounded towards minus infinity, d above 0
pub record IsFloor (n d q : ℤ) : Type 0 where
  pub low : (q *ℤ d) ≤ℤ n
  pub high : n <ℤ ((q +ℤ pos 1) *ℤ d)

-- q is n / d rounded towards plus infinity, d above 0
pub record IsCeiling (n d q : ℤ) : Type 0 where
  pub low : ((q -ℤ pos 1) *ℤ d) <ℤ n
  pub high : n ≤ℤ (q *ℤ d)

-- q is n / d rounded towards zero, d above 0
pub record IsDown (n d q : ℤ) : Type 0 where
  pub above : pos 0 ≤ℤ n → IsFloor n d q
  pub below : n <ℤ pos 0 → IsCeiling n d q

-- q is n / d rounded away from zero, d above 0
pub record IsUp (n d q : ℤ) : Type 0 where
  pub above : pos 0 ≤ℤ n → IsCeiling n d q
  pub below : n <ℤ pos 0 → IsFloor n d q

-- no whole number is nearer to n / d, and where two are as near the fact holds of q
pub record IsNearest (tie : Type 0) (n d q : ℤ) : Type 0 where
  pub near : 2 * unsigned_abs (n -ℤ q *ℤ d) ≤ unsigned_abs d
  pub at_tie : 2 * unsigned_abs (n -ℤ q *ℤ d) ≡ unsigned_abs d → tie

-- q is n / d rounded by the mode, d above 0: a tie goes away from zero, towards zero, or to the even neighbour
abbrev pub RoundsPositive : Mode → ℤ → ℤ → ℤ → Type 0
RoundsPositive Down n d q = IsDown n d q
RoundsPositive Up n d q = IsUp n d q
RoundsPositive Floor n d q = IsFloor n d q
RoundsPositive Ceiling n d q = IsCeiling n d q
RoundsPositive HalfUp n d q = IsNearest (unsigned_abs n < unsigned_abs (q *ℤ d)) n d q
RoundsPositive HalfDown n d q = IsNearest (unsigned_abs (q *ℤ d) < unsigned_abs n) n d q
RoundsPositive HalfEven n d q = IsNearest (unsigned_abs q % 2 ≡ 0) n d q

-- the dividend of the same quotient over the divisor's magnitude: both signs change where the divisor is below 0
abbrev pub dividend_over : (divisor dividend : ℤ) → ℤ
dividend_over (pos d) n = n
dividend_over (negsuc d) n = neg_ℤ n

-- q is n / d rounded by the mode, d not 0
abbrev pub Rounds : Mode → ℤ → ℤ → ℤ → Type 0
Rounds mode n d q = RoundsPositive mode (dividend_over d n) (pos (unsigned_abs d)) q

-- n / d differs from q by less than one, d not 0
abbrev pub IsNear : ℤ → ℤ → ℤ → Type 0
IsNear n d q = unsigned_abs (n -ℤ q *ℤ d) < unsigned_abs d

-- n / d is at most m / e, neither d nor e being 0
abbrev pub IsAtMost : (n d m e : ℤ) → Type 0
IsAtMost n d m e = (dividend_over d n *ℤ pos (unsigned_abs e)) ≤ℤ (dividend_over e m *ℤ pos (unsigned_abs d))

-- every rounding differs from its quotient by less than one
abbrev pub StaysNear : (ℤ → ℤ → ℤ → Type 0) → Type 0
StaysNear rounds = (n d q : ℤ) → d ≢ pos 0 → rounds n d q → IsNear n d q

-- a greater or equal quotient has a greater or equal rounding
abbrev pub RisesWithQuotient : (ℤ → ℤ → ℤ → Type 0) → Type 0
RisesWithQuotient rounds =
    (n d m e q r : ℤ) → d ≢ pos 0 → e ≢ pos 0 → IsAtMost n d m e → rounds n d q → rounds m e r → q ≤ℤ r

-- some number has the property, and no other has it
pub record HasExactlyOne (P : ℤ → Type 0) : Type 0 where
  pub some : (q : ℤ) × P q
  pub one : (q r : ℤ) → P q → P r → q ≡ r

-- by every mode each quotient has one rounding and no other
abbrev pub EachQuotientHasOneRounding : Type 0
EachQuotientHasOneRounding = (mode : Mode) (n d : ℤ) → d ≢ pos 0 → HasExactlyOne (Rounds mode n d)
