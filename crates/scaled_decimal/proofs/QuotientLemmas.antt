-- What the code's rounded quotients are, over plain variables.
use Rattle.std.proofs.Common.{◌≡◌, ◌≢◌, ℕ, ◌+◌, ◌-◌, ◌<◌, ◌≤◌, ◌^◌, ℤ, pos, ◌*ℤ◌, refl, subst, arith}
use Rattle.scaled_decimal.specs.declared.rounding.Mode.{Mode}
use Rattle.scaled_decimal.specs.Rounding.{Rounds}
use Rattle.scaled_decimal.specs.laws.IntegerLemmas.{times_zero}
use Rattle.scaled_decimal.specs.Decimals.{Decimal, decimal, numerator_of, scale_of, numerator_at, ten_to, IsRescaled, IsQuotient}
use Rattle.scaled_decimal.specs.Limits.{IsWithinLimit}
use Rattle.scaled_decimal.specs.WorkingNumbers.{RescaleFits, QuotientFits}
use Rattle.scaled_decimal.proofs.PowerLemmas.{exact_longer, shortened, over, under, ten_some}

-- at a scale that is no less, the aligned numerator is the rescaled one
pub rescaled_longer : (mode : Mode) (a : Decimal) (s : ℕ) → scale_of a ≤ s → RescaleFits mode a s → IsWithinLimit (numerator_at s a) × IsRescaled mode a s (decimal (numerator_at s a) s)
rescaled_longer mode a s h fits =
    let rounded = exact_longer mode (numerator_of a) (scale_of a) s h in
    (fits.result (numerator_at s a) rounded, record { scale = refl; rounded = rounded })

-- at a lesser scale, the numerator rounded by a power of ten
pub rescaled_shorter : (mode : Mode) (a : Decimal) (n p q : ℤ) (i s : ℕ) → decimal n i ≡ a → s ≤ i → p ≡ ten_to (i - s) → RescaleFits mode a s → Rounds mode n p q → IsWithinLimit q × IsRescaled mode a s (decimal q s)
rescaled_shorter mode a n p q i s e h power fits r =
    let r' : Rounds mode n (ten_to (i - s)) q = subst (λ x. Rounds mode n x q) power r in
    let P : Decimal → Type 0 = λ d. Rounds mode (numerator_of d *ℤ ten_to s) (ten_to (scale_of d)) q in
    let rounded : P a = subst P e (shortened mode n q i s h r') in
    (fits.result q rounded, record { scale = refl; rounded = rounded })

-- the quotient by a longer dividend
pub quotient_longer : (mode : Mode) (a b : Decimal) (d x q : ℤ) (j s m : ℕ) → decimal d j ≡ b → m ≡ s + j → scale_of a ≤ m → x ≡ numerator_at m a → QuotientFits mode a b s → Rounds mode x d q → IsWithinLimit q × IsQuotient mode a b s (decimal q s)
quotient_longer mode a b d x q j s m e places h dividend fits r =
    let r' : Rounds mode (numerator_at m a) d q = subst (λ y. Rounds mode y d q) dividend r in
    let top : Rounds mode (numerator_of a *ℤ ten_to m) (d *ℤ ten_to (scale_of a)) q = over mode (numerator_of a) d q (m - scale_of a) (scale_of a) m (omega arith) r' in
    let top' : Rounds mode (numerator_of a *ℤ ten_to (s + j)) (d *ℤ ten_to (scale_of a)) q = subst (λ k. Rounds mode (numerator_of a *ℤ ten_to k) (d *ℤ ten_to (scale_of a)) q) places top in
    let P : Decimal → Type 0 = λ c. Rounds mode (numerator_of a *ℤ ten_to (s + scale_of c)) (numerator_of c *ℤ ten_to (scale_of a)) q in
    let rounded : P b = subst P e top' in
    (fits.result q rounded, record { scale = refl; rounded = rounded })

-- the quotient by a longer divisor
pub quotient_shorter : (mode : Mode) (a b : Decimal) (n d y q : ℤ) (i j s m : ℕ) → decimal n i ≡ a → decimal d j ≡ b → m ≡ s + j → m < i → y ≡ d *ℤ ten_to (i - m) → QuotientFits mode a b s → Rounds mode n y q → IsWithinLimit q × IsQuotient mode a b s (decimal q s)
quotient_shorter mode a b n d y q i j s m e f places h divisor fits r =
    let r' : Rounds mode n (d *ℤ ten_to (i - m)) q = subst (λ z. Rounds mode n z q) divisor r in
    let low : Rounds mode (n *ℤ ten_to m) (d *ℤ ten_to i) q = under mode n d q (i - m) m i (omega arith) r' in
    let low' : Rounds mode (n *ℤ ten_to (s + j)) (d *ℤ ten_to i) q = subst (λ k. Rounds mode (n *ℤ ten_to k) (d *ℤ ten_to i) q) places low in
    let P : Decimal → Decimal → Type 0 = λ x z. Rounds mode (numerator_of x *ℤ ten_to (s + scale_of z)) (numerator_of z *ℤ ten_to (scale_of x)) q in
    let half : P a (decimal d j) = subst (λ x. P x (decimal d j)) e low' in
    let rounded : P a b = subst (λ z. P a z) f half in
    (fits.result q rounded, record { scale = refl; rounded = rounded })

-- a longer divisor isn't 0
pub longer_not_zero : (b : Decimal) (d y : ℤ) (j k : ℕ) → decimal d j ≡ b → y ≡ d *ℤ ten_to k → numerator_of b ≢ pos 0 → y ≢ pos 0
longer_not_zero b d y j k e divisor some zero_is =
    some (subst (λ c. numerator_of c ≡ pos 0) e (times_zero d (10 ^ k) (ten_some k) (subst (λ x. x ≡ pos 0) divisor zero_is)))
