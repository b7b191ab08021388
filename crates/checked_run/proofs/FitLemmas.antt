-- When the numbers of an operation are within their limits, by the numbers that it begins with.
use Rattle.std.proofs.Common.{◌≡◌, ◌≢◌, ℕ, ◌+◌, ◌-◌, ◌^◌, ◌<◌, ◌≤◌, ℤ, pos, ◌*ℤ◌, ◌<ℤ◌, unsigned_abs, Bool, true, false, Option, Some, None, refl, sym, ap, ◌∙◌, subst, arith, true≢false}
use Rattle.std.specs.Prelude.{is_some, IsTrue, ◌↔◌}
use Rattle.std.proofs.lemmas.Int.{ints}
use Rattle.scaled_decimal.specs.declared.rounding.Mode.{Mode}
use Rattle.scaled_decimal.specs.Decimals.{Decimal, numerator_of, scale_of, numerator_at, ten_to}
use Rattle.scaled_decimal.specs.Limits.{IsWithinLimit, most_places}
use Rattle.scaled_decimal.specs.WorkingNumbers.{RescaleFits, QuotientFits, ExactQuotientFits, IsDivisorPlaces, places_moved}
use Rattle.scaled_decimal.specs.ExactQuotients.{IsPlainDivisor}
use Rattle.scaled_decimal.specs.laws.RoundingLemmas.{exact}
use Rattle.scaled_decimal.proofs.Laws.{times_assoc, ten_add, ten_some, power_bound, rescale_fits_longer, quotient_fits_longer, quotient_fits_shorter, exact_fits_least}
use Rattle.checked_run.specs.private.FitViews.{IsHeld}

pub held_some : (n : ℤ) (o : Option ℤ) → IsHeld n o → is_some o ≡ true → IsWithinLimit n
held_some n (Some m) h e = h.1
held_some n None h e = absurd (true≢false (sym e))

pub held_none : (n : ℤ) (o : Option ℤ) → IsHeld n o → is_some o ≡ false → IsWithinLimit n → ⊥
held_none n (Some m) h e w = true≢false e
held_none n None h e w = h w

pub held_there : (n : ℤ) (o : Option ℤ) → IsHeld n o → IsWithinLimit n → is_some o ≡ true
held_there n (Some m) h w = refl
held_there n None h w = absurd (h w)

pub rescale_within : (mode : Mode) (a : Decimal) (s : ℕ) → scale_of a ≤ s → RescaleFits mode a s
    → IsWithinLimit (numerator_at s a)
rescale_within mode a s longer fits =
    fits.result (numerator_at s a)
    (exact mode (numerator_of a *ℤ ten_to s) (numerator_at s a) (10 ^ scale_of a) (ten_some (scale_of a))
    (sym (times_assoc (numerator_of a) (ten_to (s - scale_of a)) (ten_to (scale_of a))
    ∙ ap (λ x. numerator_of a *ℤ x) (ten_add (s - scale_of a) (scale_of a) s (omega arith)))))

pub quotient_power : (mode : Mode) (a b : Decimal) (s : ℕ) → scale_of a ≤ s + scale_of b → QuotientFits mode a b s
    → s + scale_of b - scale_of a ≤ 37
quotient_power mode a b s longer fits =
    let moved : unsigned_abs (places_moved a b s) ≡ s + scale_of b - scale_of a = omega (arith, ints) in
    power_bound (s + scale_of b - scale_of a) (subst (λ k. 10 ^ k ≤ 10 ^ 37) moved fits.power)

-- setScale to a scale that is no less fits exactly where the lengthened numerator does
pub rescale_exactly : (mode : Mode) (a : Decimal) (s k : ℕ) (r : Bool) → scale_of a ≤ s → s ≤ most_places
    → k ≡ s - scale_of a → (IsTrue r ↔ IsWithinLimit (numerator_of a *ℤ ten_to k)) → IsTrue r ↔ RescaleFits mode a s
rescale_exactly mode a s k r le few e h = (
  λ t. rescale_fits_longer mode a s le few (subst (λ k. IsWithinLimit (numerator_of a *ℤ ten_to k)) e (h.0 t)),
  λ fits. h.1 (subst (λ k. IsWithinLimit (numerator_of a *ℤ ten_to k)) (sym e) (rescale_within mode a s le fits)),
)

-- divide by a lengthened divisor
pub shorter_exactly : (mode : Mode) (a b : Decimal) (s k : ℕ) (r : Bool) → numerator_of b ≢ pos 0 → s ≤ most_places
    → s + scale_of b < scale_of a → scale_of a ≤ most_places → IsWithinLimit (numerator_of a)
    → k ≡ scale_of a - (s + scale_of b) → (IsTrue r ↔ IsWithinLimit (numerator_of b *ℤ ten_to k))
    → IsTrue r ↔ QuotientFits mode a b s
shorter_exactly mode a b s k r some few less places kept e h = (
  λ t. quotient_fits_shorter mode a b s some few less (omega arith) kept
      (subst (λ k. IsWithinLimit (numerator_of b *ℤ ten_to k)) e (h.0 t)),
  λ fits. h.1 (subst (λ k. IsWithinLimit (numerator_of b *ℤ ten_to k)) (sym e) (fits.divisor less)),
)

-- divide of a lengthened dividend
pub longer_exactly : (mode : Mode) (a b : Decimal) (s k : ℕ) (r : Bool) → numerator_of b ≢ pos 0 → s ≤ most_places
    → scale_of a ≤ s + scale_of b → k ≤ 37 → k ≡ s + scale_of b - scale_of a
    → (IsTrue r ↔ IsWithinLimit (numerator_of a *ℤ ten_to k)) → IsTrue r ↔ QuotientFits mode a b s
longer_exactly mode a b s k r some few le power e h = (
  λ t. quotient_fits_longer mode a b s some few le (subst (λ k. k ≤ 37) e power)
      (subst (λ k. IsWithinLimit (numerator_of a *ℤ ten_to k)) e (h.0 t)),
  λ fits. h.1 (subst (λ k. IsWithinLimit (numerator_of a *ℤ ten_to k)) (sym e) (fits.dividend le)),
)

-- the exact quotient, by the cofactor of its divisor
pub exact_exactly : (a : Decimal) (d c n : ℤ) (k : ℕ) (o : Option ℤ) → IsPlainDivisor d → IsDivisorPlaces d k
    → scale_of a + k ≤ most_places → c *ℤ d ≡ ten_to k → n ≡ numerator_of a *ℤ c → IsHeld n o
    → (is_some o ≡ true) ↔ ExactQuotientFits a d
exact_exactly a d c n k o plain places few whole e h =
    let positive : pos 0 <ℤ d = let p = plain.positive in omega (arith, ints) in (
      λ t. exact_fits_least a d c k positive whole (subst IsWithinLimit e (held_some n o h t)) places few,
      λ fits. held_there n o h (subst IsWithinLimit (sym e) (fits.scaled k c places whole)),
    )
