-- Decimals and their exact operations over unbounded whole numbers, as java.math.BigDecimal documents them.
-- Source: the documentation of java.math.BigDecimal (add, subtract, multiply, negate, abs, compareTo, min,
-- max, setScale, divide).
use Rattle.std.specs.Prelude.{◌≡◌, ℕ, ◌+◌, ◌-◌, ◌^◌, max, if◌then◌else◌, ℤ, pos, negsuc, ◌+ℤ◌, ◌-ℤ◌, ◌*ℤ◌, neg_ℤ, unsigned_abs}
use Rattle.std.specs.Ordering.{int_cmp, is_lt, is_gt}
use Rattle.std.specs.declared.cmp.Ordering.{Ordering}
use Rattle.std.specs.declared.cmp.Ordering.TheVariants.{Less, Equal, Greater}
use Rattle.scaled_decimal.specs.Rounding.{Rounds}
use Rattle.scaled_decimal.specs.declared.rounding.Mode.{Mode}

-- a numerator n and a scale s, with the value n / 10^s
abbrev pub Decimal : Type 0
Decimal = ℤ × ℕ

-- the decimal of a numerator and a scale
abbrev pub decimal : ℤ → ℕ → Decimal
decimal n s = (n, s)

-- the numerator of a decimal
abbrev pub numerator_of : Decimal → ℤ
numerator_of d = d.0

-- the scale of a decimal
abbrev pub scale_of : Decimal → ℕ
scale_of d = d.1

-- 10^k
abbrev pub ten_to : ℕ → ℤ
ten_to k = pos (10 ^ k)

-- the numerator of the same value at scale s, which is no less than the decimal's own
abbrev pub numerator_at : ℕ → Decimal → ℤ
numerator_at s d = numerator_of d *ℤ ten_to (s - scale_of d)

-- the greater of the scales of two decimals
abbrev pub greater_scale : Decimal → Decimal → ℕ
greater_scale a b = max (scale_of a) (scale_of b)

-- add: the exact sum, at the greater of the two scales
abbrev pub sum : Decimal → Decimal → Decimal
sum a b = let s = greater_scale a b in decimal (numerator_at s a +ℤ numerator_at s b) s

-- subtract: the exact difference, at the greater of the two scales
abbrev pub difference : Decimal → Decimal → Decimal
difference a b = let s = greater_scale a b in decimal (numerator_at s a -ℤ numerator_at s b) s

-- multiply: the exact product, at the sum of the two scales
abbrev pub product : Decimal → Decimal → Decimal
product a b = decimal (numerator_of a *ℤ numerator_of b) (scale_of a + scale_of b)

-- negate: the opposite, at the same scale
abbrev pub negated : Decimal → Decimal
negated d = decimal (neg_ℤ (numerator_of d)) (scale_of d)

-- abs: the absolute value, at the same scale
abbrev pub magnitude : Decimal → Decimal
magnitude d = decimal (pos (unsigned_abs (numerator_of d))) (scale_of d)

-- the order of the values, whatever the scales: a / 10^i is below b / 10^j where a * 10^j is below b * 10^i
abbrev pub value_order : Decimal → Decimal → Ordering
value_order a b = int_cmp (numerator_of a *ℤ ten_to (scale_of b)) (numerator_of b *ℤ ten_to (scale_of a))

-- -1, 0 or 1
abbrev pub order_number : Ordering → ℤ
order_number Less = negsuc 0
order_number Equal = pos 0
order_number Greater = pos 1

-- compareTo: the order of the values as a number
abbrev pub comparison : Decimal → Decimal → ℤ
comparison a b = order_number (value_order a b)

-- min: the one of the lesser value with its own scale, and the receiver where the values are equal
abbrev pub lesser : Decimal → Decimal → Decimal
lesser a b = if is_gt (value_order a b) then b else a

-- max: the one of the greater value with its own scale, and the receiver where the values are equal
abbrev pub greater : Decimal → Decimal → Decimal
greater a b = if is_lt (value_order a b) then b else a

-- q is the numerator of the value rounded to scale s
abbrev pub RoundsValue : Mode → Decimal → ℕ → ℤ → Type 0
RoundsValue mode a s q = Rounds mode (numerator_of a *ℤ ten_to s) (ten_to (scale_of a)) q

-- q is the numerator of a / b rounded to scale s
abbrev pub RoundsQuotient : Mode → Decimal → Decimal → ℕ → ℤ → Type 0
RoundsQuotient mode a b s q =
    Rounds mode (numerator_of a *ℤ ten_to (s + scale_of b)) (numerator_of b *ℤ ten_to (scale_of a)) q

-- setScale: the value, rounded to the scale that is asked for
pub record IsRescaled (mode : Mode) (a : Decimal) (s : ℕ) (result : Decimal) : Type 0 where
  pub scale : scale_of result ≡ s
  pub rounded : RoundsValue mode a s (numerator_of result)

-- divide: the quotient, rounded to the scale that is asked for
pub record IsQuotient (mode : Mode) (a b : Decimal) (s : ℕ) (result : Decimal) : Type 0 where
  pub scale : scale_of result ≡ s
  pub rounded : RoundsQuotient mode a b s (numerator_of result)
