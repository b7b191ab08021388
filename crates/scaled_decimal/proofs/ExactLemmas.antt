-- The exact quotient by a plain divisor.
use Rattle.std.proofs.Common.{◌≡◌, ℕ, suc, ◌+◌, ◌-◌, ◌*◌, ◌^◌, ◌<◌, ◌≤◌, ℤ, pos, negsuc, ◌*ℤ◌, ◌≤ℤ◌, ◌<ℤ◌, neg_ℤ, int_div, int_rem, FitsSigned, of_z, nat_eq, IsTrue, refl, sym, ap, ◌∙◌, subst, inl, inr, arith}
use Rattle.std.specs.Int.{w128}
use Rattle.std.proofs.lemmas.Bool.Decides.{nat_tests}
use Rattle.std.proofs.lemmas.Bool.{cases_lt}
use Rattle.std.proofs.lemmas.Int.{ints, quot-rem, to_z-of_z, quot_is, quot_fits}
use Rattle.std.proofs.Math.Nat.{mul-mod_left}
use Rattle.scaled_decimal.specs.laws.IntegerLemmas.{times_assoc, times_swap, times_cancel}
use Rattle.scaled_decimal.specs.Decimals.{Decimal, decimal, numerator_of, scale_of, ten_to}
use Rattle.scaled_decimal.specs.ExactQuotients.{Divides, IsExactQuotient}
use Rattle.scaled_decimal.specs.WorkingNumbers.{IsDivisorPlaces, ExactQuotientFits}
use Rattle.scaled_decimal.specs.Shortening.{IsShortened}
use Rattle.scaled_decimal.specs.Limits.{IsWithinLimit}
use Rattle.scaled_decimal.proofs.MachineLemmas.{held}
use Rattle.scaled_decimal.proofs.PowerLemmas.{ten_add, ten_some}

-- a number times two powers
pub powers : (n : ℤ) (i j k : ℕ) → i + j ≡ k → (n *ℤ ten_to i) *ℤ ten_to j ≡ n *ℤ ten_to k
powers n i j k e = times_assoc n (ten_to i) (ten_to j) ∙ ap (λ x. n *ℤ x) (ten_add i j k e)

-- a number divides another where nothing is left
pub rem_from_divides : (d n : ℤ) → pos 0 <ℤ d → Divides d n → int_rem n d ≡ pos 0
rem_from_divides (negsuc d) n positive h = absurd (omega (arith, ints))
rem_from_divides (pos d) (pos m) positive (pos k, e) = let times : k * d ≡ m = omega (arith, ints) in rw (← times) (ap pos (mul-mod_left k d))
rem_from_divides (pos d) (pos m) positive (negsuc k, e) = absurd (omega (arith, ints))
rem_from_divides (pos d) (negsuc m) positive (pos k, e) = absurd (omega (arith, ints))
rem_from_divides (pos d) (negsuc m) positive (negsuc k, e) = let times : suc k * d ≡ suc m = omega (arith, ints) in rw (← times) (ap (λ r. neg_ℤ (pos r)) (mul-mod_left (suc k) d))

pub divides_from_rem : (d n : ℤ) → int_rem n d ≡ pos 0 → Divides d n
divides_from_rem d n e = (int_div n d, (let q = quot-rem n d in omega (arith, ints)))

-- the code's test that nothing is left
pub zero_bits : (z : ℤ) → FitsSigned w128 z → IsTrue (nat_eq (of_z w128 z) 0) → z ≡ pos 0
zero_bits (pos n) fits t = ap pos (grind (arith, nat_tests))
zero_bits (negsuc n) fits t = absurd (let some : 0 < of_z w128 (negsuc n) = omega (arith, fits.sfits) in grind (arith, nat_tests))

pub zero_test : (z : ℤ) → z ≡ pos 0 → IsTrue (nat_eq (of_z w128 z) 0)
zero_test z e = rw e refl

-- the shortened product holds the quotient
exact : (n c m d : ℤ) (s k t : ℕ) → c *ℤ d ≡ ten_to k → t ≤ s + k → n *ℤ c ≡ m *ℤ ten_to (s + k - t) → (m *ℤ d) *ℤ ten_to s ≡ n *ℤ ten_to t
exact n c m d s k t e h same =
    let u = ten_to (s + k - t) in
    times_cancel ((m *ℤ d) *ℤ ten_to s) (n *ℤ ten_to t) (10 ^ (s + k - t)) (ten_some (s + k - t)) (
    times_swap (m *ℤ d) (ten_to s) u
    ∙ ap (λ x. x *ℤ ten_to s) (times_swap m d u ∙ ap (λ x. x *ℤ d) (sym same) ∙ times_assoc n c d ∙ ap (λ x. n *ℤ x) e)
    ∙ powers n k s (s + k) (omega arith)
    ∙ sym (powers n t (s + k - t) (s + k) (omega arith)))

-- a numerator that holds the quotient at a lesser scale shows a zero at the end of the other
pub zero_at_end : (n m m' : ℤ) (d : ℕ) (s t t' : ℕ) → 0 < d → t' < t → (m *ℤ pos d) *ℤ ten_to s ≡ n *ℤ ten_to t → (m' *ℤ pos d) *ℤ ten_to s ≡ n *ℤ ten_to t' → Divides (pos 10) m
zero_at_end n m m' d s t t' some less e e' =
    let v = ten_to (t - t') in
    let grown : ((m' *ℤ v) *ℤ pos d) *ℤ ten_to s ≡ (m *ℤ pos d) *ℤ ten_to s =
    ap (λ x. x *ℤ ten_to s) (times_swap m' v (pos d)) ∙ times_swap (m' *ℤ pos d) v (ten_to s) ∙ ap (λ x. x *ℤ v) e' ∙ powers n t' (t - t') t (omega arith) ∙ sym e in
    let same : m' *ℤ v ≡ m = times_cancel (m' *ℤ v) m d some (times_cancel ((m' *ℤ v) *ℤ pos d) (m *ℤ pos d) (10 ^ s) (ten_some s) grown) in
    (m' *ℤ ten_to (t - t' - 1), powers m' (t - t' - 1) 1 (t - t') (omega arith) ∙ same)

-- the shortened product is the exact quotient
pub shortened_quotient : (a : Decimal) (d c : ℤ) (k : ℕ) (result : Decimal) → pos 1 ≤ℤ d → c *ℤ d ≡ ten_to k → IsShortened (decimal (numerator_of a *ℤ c) (scale_of a + k)) (scale_of a) result → IsExactQuotient a d result
shortened_quotient a (negsuc d) c k result positive e h = absurd (omega (arith, ints))
shortened_quotient a (pos d) c k result positive e h =
    let holds = exact (numerator_of a) c (numerator_of result) (pos d) (scale_of a) k (scale_of result) e h.high h.same in
    record {
      scale = h.low;
      exact = holds;
      least = λ q low other. elim (cases_lt (scale_of q) (scale_of result)) [
        | inl less ↦ absurd (
            let end = h.short (zero_at_end (numerator_of a) (numerator_of result) (numerator_of q) d (scale_of a) (scale_of result) (scale_of q) (omega (arith, ints)) less holds other) in
            omega arith)
        | inr le ↦ le
      ];
    }

-- where a power of ten isn't a multiple, one place more may be
pub places_more : (d p : ℤ) (k : ℕ) → k ≤ 30 → Divides d (ten_to 30) → p ≡ ten_to k → (Divides d p → ⊥) → ((j : ℕ) → Divides d (ten_to j) → k ≤ j) → (k + 1 ≤ 30) × ((j : ℕ) → Divides d (ten_to j) → k + 1 ≤ j)
places_more d p k few plain power not least = (above 30 plain, above) where
  above : (j : ℕ) → Divides d (ten_to j) → k + 1 ≤ j
  above j h =
      let low = least j h in
      let same : j ≡ k → ⊥ = λ e. not (subst (λ x. Divides d x) (ap ten_to e ∙ sym power) h) in
      omega arith

pub above_zero : (d : ℤ) → pos 1 ≤ℤ d → pos 0 <ℤ d
above_zero d h = omega (arith, ints)

-- the code's factor times the divisor
pub factor_times : (d p : ℤ) (k : ℕ) → pos 1 ≤ℤ d → p ≡ ten_to k → Divides d (ten_to k) → int_div p d *ℤ d ≡ ten_to k
factor_times d p k positive power h =
    let rest = rem_from_divides d (ten_to k) (above_zero d positive) h in
    let q = quot-rem (ten_to k) d in
    let whole : int_div (ten_to k) d *ℤ d ≡ ten_to k = omega (arith, ints) in
    rw power whole

-- the numerator that the code works with is within the limit
pub scaled_kept : (a : Decimal) (d n p : ℤ) (k : ℕ) → n ≡ numerator_of a → p ≡ ten_to k → pos 1 ≤ℤ d → IsDivisorPlaces d k → ExactQuotientFits a d → IsWithinLimit (n *ℤ int_div p d)
scaled_kept a d n p k same power positive places fits = rw same (fits.scaled k (int_div p d) places (factor_times d p k positive power places.divides))

-- what the code's product of the numerator and the factor is
pub record IsWorked (a : Decimal) (d n p : ℤ) (k : ℕ) : Type 0 where
  pub places : IsDivisorPlaces d k
  pub product : held n *ℤ held (int_div (held p) (held d)) ≡ n *ℤ int_div p d
  pub kept : IsWithinLimit (n *ℤ int_div p d)
  pub factor : int_div p d *ℤ d ≡ ten_to k

pub worked : (a : Decimal) (d n p : ℤ) (k : ℕ) → FitsSigned w128 n → FitsSigned w128 p → FitsSigned w128 d → n ≡ numerator_of a → p ≡ ten_to k → pos 1 ≤ℤ d → IsDivisorPlaces (held d) k → ExactQuotientFits a d → IsWorked a d n p k
worked a d n p k fn fp fd same power positive at fits =
    let places = rw (to_z-of_z w128 d fd) at at in
    record {
      places = places;
      product = rw (to_z-of_z w128 n fn, quot_is w128 p d fp fd (quot_fits w128 p d fp (above_zero d positive))) refl;
      kept = scaled_kept a d n p k same power positive places fits;
      factor = factor_times d p k positive power places.divides;
    }
