-- Whole numbers as Java's int and long compute with them, before a width bounds the result (The Java Language
-- Specification, 15.15.4, 15.17 and 15.18). Source: The Java Language Specification, 15.15.4, 15.17 and
-- 15.18.
use Rattle.std.specs.Prelude.{ℕ, ◌-◌, ◌^◌, Bool, ◌&&◌, if◌then◌else◌, List, Option, None, slice_get, ℤ, pos, negsuc, ◌+ℤ◌, ◌-ℤ◌, ◌*ℤ◌, neg_ℤ, ◌≤ℤ◌, ◌<ℤ◌, int_le, int_lt, int_div, int_rem}
use Rattle.scaled_decimal.specs.Decimals.{Decimal, decimal, numerator_of}

-- the bits of an `int` of Java
abbrev pub int_bits : ℕ
int_bits = 32

-- the bits of a `long` of Java
abbrev pub long_bits : ℕ
long_bits = 64

-- a number that so many bits hold in two's complement
pub record IsOfBits (bits : ℕ) (n : ℤ) : Type 0 where
  pub low : neg_ℤ (pos (2 ^ (bits - 1))) ≤ℤ n
  pub high : n <ℤ pos (2 ^ (bits - 1))

-- the test whether a whole number has so many bits
abbrev pub is_of_bits : ℕ → ℤ → Bool
is_of_bits bits n = int_le (neg_ℤ (pos (2 ^ (bits - 1)))) n && int_lt n (pos (2 ^ (bits - 1)))

-- a + b
abbrev pub whole_sum : ℤ → ℤ → ℤ
whole_sum a b = a +ℤ b

-- a - b
abbrev pub whole_difference : ℤ → ℤ → ℤ
whole_difference a b = a -ℤ b

-- a * b
abbrev pub whole_product : ℤ → ℤ → ℤ
whole_product a b = a *ℤ b

-- a / b, b not 0: the quotient is cut towards zero
abbrev pub whole_quotient : ℤ → ℤ → ℤ
whole_quotient a b = int_div a b

-- a % b, b not 0: what that quotient leaves, with the sign of a
abbrev pub whole_remainder : ℤ → ℤ → ℤ
whole_remainder a b = int_rem a b

-- -a
abbrev pub whole_opposite : ℤ → ℤ
whole_opposite a = neg_ℤ a

-- a whole number as a decimal
abbrev pub whole_decimal : ℤ → Decimal
whole_decimal n = decimal n 0

-- an operation on a whole number, as one on a decimal that stands for it
abbrev pub of_whole : (ℤ → ℤ) → Decimal → Decimal
of_whole f a = whole_decimal (f (numerator_of a))

-- an operation on two whole numbers, as one on the decimals that stand for them
abbrev pub of_wholes : (ℤ → ℤ → ℤ) → Decimal → Decimal → Decimal
of_wholes f a b = whole_decimal (f (numerator_of a) (numerator_of b))

-- a truth as a whole number, which is 1 or 0
abbrev pub truth : Bool → Decimal
truth b = if b then whole_decimal (pos 1) else whole_decimal (pos 0)

-- an item of a list by its number from 0
abbrev pub item_at : {A : Type 0} → List A → ℤ → Option A
item_at items (pos n) = slice_get items n
item_at items (negsuc n) = None
