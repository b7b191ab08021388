-- Laws of the roundings: near the quotient, rising with it, and exactly one.
use Rattle.std.specs.Prelude.{◌≡◌, ◌≢◌, ℕ, zero, suc, ◌*◌, ◌<◌, Bool, true, false, ℤ, pos, negsuc, ◌+ℤ◌, ◌-ℤ◌, neg_ℤ, ◌≤ℤ◌, unsigned_abs, int_div, int_rem, int_lt}
use Rattle.std.proofs.Common.{arith, refl, sym, inl, inr}
use Rattle.std.proofs.lemmas.Bool.{cases_lt}
use Rattle.std.proofs.lemmas.Int.{ints}
use Rattle.scaled_decimal.specs.declared.rounding.Mode.{Mode}
use Rattle.scaled_decimal.specs.declared.rounding.Mode.TheVariants.{Down, Up, Floor, Ceiling, HalfUp, HalfDown, HalfEven}
use Rattle.scaled_decimal.specs.Rounding.{IsFloor, IsCeiling, IsNearest, RoundsPositive, Rounds, IsNear, IsAtMost, StaysNear, RisesWithQuotient, HasExactlyOne, dividend_over}
use Rattle.scaled_decimal.specs.private.RoundingDecision.{moves_away}
use Rattle.scaled_decimal.specs.laws.RoundingLemmas.{is_odd, stays, moves_up, moves_down, divides}
use Rattle.scaled_decimal.specs.laws.IntegerLemmas.{times_more, times_less, times_neg_right, by_sign, some_abs}
use Rattle.scaled_decimal.specs.laws.MonotoneLemmas.{rounds_rise}

floor_near : (n q : ℤ) (d : ℕ) → IsFloor n (pos d) q → IsNear n (pos d) q
floor_near n q d h = let m = times_more q (pos d) in omega (arith, ints, h.low, h.high)

ceiling_near : (n q : ℤ) (d : ℕ) → IsCeiling n (pos d) q → IsNear n (pos d) q
ceiling_near n q d h = let m = times_less q (pos d) in omega (arith, ints, h.low, h.high)

half_near : (tie : Type 0) (n q : ℤ) (d : ℕ) → 0 < d → IsNearest tie n (pos d) q → IsNear n (pos d) q
half_near tie n q d some h = omega (arith, h.near)

positive_near : (mode : Mode) (n q : ℤ) (d : ℕ) → 0 < d → RoundsPositive mode n (pos d) q → IsNear n (pos d) q
positive_near Down n q d some h = by_sign _ n (λ a. floor_near n q d (h.above a)) (λ b. ceiling_near n q d (h.below b))
positive_near Up n q d some h = by_sign _ n (λ a. ceiling_near n q d (h.above a)) (λ b. floor_near n q d (h.below b))
positive_near Floor n q d some h = floor_near n q d h
positive_near Ceiling n q d some h = ceiling_near n q d h
positive_near HalfUp n q d some h = half_near _ n q d some h
positive_near HalfDown n q d some h = half_near _ n q d some h
positive_near HalfEven n q d some h = half_near _ n q d some h

-- the rounding differs from the quotient by less than one
pub rounds_near : (mode : Mode) → StaysNear (Rounds mode)
rounds_near mode n (pos zero) q some h = absurd (some refl)
rounds_near mode n (pos (suc d)) q some h = positive_near mode n q (suc d) (omega arith) h
rounds_near mode n (negsuc d) q some h =
    let t = positive_near mode (neg_ℤ n) q (suc d) (omega arith) h in
    let m = times_neg_right q (negsuc d) in
    omega (arith, ints)

-- a greater or equal quotient is rounded to a greater or equal number
pub rounds_rising : (mode : Mode) → RisesWithQuotient (Rounds mode)
rounds_rising mode n d m e q r some some' le f g = rounds_rise mode (dividend_over d n) (dividend_over e m) q r (unsigned_abs d) (unsigned_abs e) (some_abs d some) (some_abs e some') le f g

-- some number is the rounding
cut : (mode : Mode) (n : ℤ) (d : ℕ) → 0 < d → (moved : Bool) → moved ≡ moves_away mode (int_lt n (pos 0)) (is_odd (unsigned_abs (int_div n (pos d)))) (2 * unsigned_abs (int_rem n (pos d))) d → 0 < unsigned_abs (int_rem n (pos d)) → (q : ℤ) × RoundsPositive mode n (pos d) q
cut mode n d some false e rest = (int_div n (pos d), stays mode n (pos d) (omega (arith, ints)) rest (sym e))
cut mode (pos a) d some true e rest = (int_div (pos a) (pos d) +ℤ pos 1, moves_up mode (pos a) (pos d) (omega (arith, ints)) (omega (arith, ints)) rest (sym e))
cut mode (negsuc a) d some true e rest = (int_div (negsuc a) (pos d) -ℤ pos 1, moves_down mode (negsuc a) (pos d) (omega (arith, ints)) (omega (arith, ints)) rest (sym e))

rounded_positive : (mode : Mode) (n : ℤ) (d : ℕ) → 0 < d → (q : ℤ) × RoundsPositive mode n (pos d) q
rounded_positive mode n d some =
    elim (cases_lt 0 (unsigned_abs (int_rem n (pos d)))) [
      | inl rest ↦ cut mode n d some (moves_away mode (int_lt n (pos 0)) (is_odd (unsigned_abs (int_div n (pos d)))) (2 * unsigned_abs (int_rem n (pos d))) d) refl rest
      | inr none ↦ (int_div n (pos d), divides mode n (pos d) (omega (arith, ints)) (omega arith))
    ]

-- a quotient has one rounding and no other
pub rounds_exactly_one : (mode : Mode) (n d : ℤ) → d ≢ pos 0 → HasExactlyOne (Rounds mode n d)
rounds_exactly_one mode n d some = record {
  some = rounded_positive mode (dividend_over d n) (unsigned_abs d) (some_abs d some);
  one = λ q r f g. by_order q r (rounds_rising mode n d n d q r some some le f g) (rounds_rising mode n d n d r q some some le g f);
} where
  le : IsAtMost n d n d
  le = omega (arith, ints)

  by_order : (a b : ℤ) → a ≤ℤ b → b ≤ℤ a → a ≡ b
  by_order a b p q = omega (arith, ints)
