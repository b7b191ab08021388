-- A quotient that is no less is rounded to a number that is no less.
use Rattle.std.specs.Prelude.{◌≡◌, ℕ, zero, suc, ◌+◌, ◌*◌, ◌<◌, ◌%◌, ℤ, pos, negsuc, ◌+ℤ◌, ◌*ℤ◌, ◌≤ℤ◌, ◌<ℤ◌, unsigned_abs}
use Rattle.std.proofs.Common.{arith, ap, sym, subst}
use Rattle.std.proofs.lemmas.Int.{ints, by_lt_z}
use Rattle.std.proofs.Math.Nat.{mul_comm}
use Rattle.scaled_decimal.specs.declared.rounding.Mode.{Mode}
use Rattle.scaled_decimal.specs.declared.rounding.Mode.TheVariants.{Down, Up, Floor, Ceiling, HalfUp, HalfDown, HalfEven}
use Rattle.scaled_decimal.specs.Rounding.{IsFloor, IsCeiling, IsDown, IsUp, IsNearest, RoundsPositive}
use Rattle.scaled_decimal.specs.laws.IntegerLemmas.{times_more, times_less, le_times, by_sign}
use Rattle.scaled_decimal.specs.laws.ScaledLemmas.{scaled}

-- one and the same positive divisor, and a greater rounding of the smaller number
module _ (n n' q q' : ℤ) (d : ℕ) (some : 0 < d) (le : n ≤ℤ n') (less : q' <ℤ q) where
  step : ((q' +ℤ pos 1) *ℤ pos d) ≤ℤ (q *ℤ pos d)
  step = le_times (q' +ℤ pos 1) q d (omega (arith, ints))

  -- the same, with the products of a sum written out
  apart : (q' *ℤ pos d +ℤ pos d) ≤ℤ (q *ℤ pos d)
  apart = let m = times_more q' (pos d) in subst (λ x. x ≤ℤ (q *ℤ pos d)) m step

  floors : IsFloor n (pos d) q → IsFloor n' (pos d) q' → ⊥
  floors f g = let s = step in omega (arith, ints, f.low, g.high)

  ceilings : IsCeiling n (pos d) q → IsCeiling n' (pos d) q' → ⊥
  ceilings f g =
      let s = apart in
      let m = times_less q (pos d) in
      omega (arith, ints, f.low, g.high)

-- towards zero, from a number below 0 to one that is not
crossed : (q q' : ℤ) (n n' : ℤ) (d : ℕ) → 0 < d → n <ℤ pos 0 → pos 0 ≤ℤ n' → q' <ℤ q → IsCeiling n (pos d) q → IsFloor n' (pos d) q' → ⊥
crossed (pos zero) (pos b) n n' d some neg up less f g = omega (arith, ints)
crossed (pos (suc a)) q' n n' d some neg up less f g = let m = times_less (pos (suc a)) (pos d) in omega (arith, ints, f.low)
crossed (negsuc a) (pos b) n n' d some neg up less f g = omega (arith, ints)
crossed q (negsuc b) n n' d some neg up less f g = let m = times_more (negsuc b) (pos d) in omega (arith, ints, g.high)

-- away from zero, from a number below 0 to one that is not
crossed_away : (q q' : ℤ) (n n' : ℤ) (d : ℕ) → 0 < d → n <ℤ pos 0 → pos 0 ≤ℤ n' → q' <ℤ q → IsFloor n (pos d) q → IsCeiling n' (pos d) q' → ⊥
crossed_away (pos a) q' n n' d some neg up less f g = omega (arith, ints, f.low)
crossed_away (negsuc a) (pos b) n n' d some neg up less f g = omega (arith, ints)
crossed_away (negsuc a) (negsuc b) n n' d some neg up less f g = omega (arith, ints, g.high)

downs : (n n' q q' : ℤ) (d : ℕ) → 0 < d → n ≤ℤ n' → q' <ℤ q → IsDown n (pos d) q → IsDown n' (pos d) q' → ⊥
downs n n' q q' d some le less f g =
    by_sign ⊥ n (λ a. floors n n' q q' d some le less (f.above a) (g.above (omega (arith, ints)))) (λ b.
    by_sign ⊥ n' (λ a. crossed q q' n n' d some b a less (f.below b) (g.above a)) (λ c. ceilings n n' q q' d some le less (f.below b) (g.below c)))

ups : (n n' q q' : ℤ) (d : ℕ) → 0 < d → n ≤ℤ n' → q' <ℤ q → IsUp n (pos d) q → IsUp n' (pos d) q' → ⊥
ups n n' q q' d some le less f g =
    by_sign ⊥ n (λ a. ceilings n n' q q' d some le less (f.above a) (g.above (omega (arith, ints)))) (λ b.
    by_sign ⊥ n' (λ a. crossed_away q q' n n' d some b a less (f.below b) (g.above a)) (λ c. floors n n' q q' d some le less (f.below b) (g.below c)))

-- what is left of two roundings to the nearest that cross: both numbers are one, half way between the two
record Tied (n q q' : ℤ) (d : ℕ) : Type 0 where
  next : q ≡ q' +ℤ pos 1
  above : pos 2 *ℤ n +ℤ pos d ≡ pos 2 *ℤ (q *ℤ pos d)
  below : pos 2 *ℤ n ≡ pos 2 *ℤ (q' *ℤ pos d) +ℤ pos d

cancel : (a b : ℤ) (d : ℕ) → 0 < d → a <ℤ b → (b *ℤ pos d) ≤ℤ (a *ℤ pos d) → ⊥
cancel a b d some l h = let s = le_times (a +ℤ pos 1) b d (omega (arith, ints)) in let m = times_more a (pos d) in omega (arith, ints)

not_apart : (q q' : ℤ) (d : ℕ) → 0 < d → q' <ℤ q → (q *ℤ pos d) ≤ℤ (q' *ℤ pos d +ℤ pos d) → q ≡ q' +ℤ pos 1
not_apart q q' d some less h =
    by_lt_z (q' +ℤ pos 1) q (λ l. absurd (let m = times_more q' (pos d) in cancel (q' +ℤ pos 1) q d some l (subst (λ (x : ℤ). (q *ℤ pos d) ≤ℤ x) (sym m) h))) (λ k. omega (arith, ints))

tied : (t t' : Type 0) (n n' q q' : ℤ) (d : ℕ) → 0 < d → n ≤ℤ n' → q' <ℤ q → IsNearest t n (pos d) q → IsNearest t' n' (pos d) q' → Tied n q q' d × (n ≡ n')
tied t t' n n' q q' d some le less f g =
    let s = apart n n' q q' d some le less in
    let a = f.near in
    let b = g.near in
    (record { next = not_apart q q' d some less (omega (arith, ints)); above = omega (arith, ints); below = omega (arith, ints) }, omega (arith, ints))

half_ups : (n q q' : ℤ) (d : ℕ) → 0 < d → Tied n q q' d → unsigned_abs n < unsigned_abs (q *ℤ pos d) → unsigned_abs n < unsigned_abs (q' *ℤ pos d) → ⊥
half_ups n q (pos a) d some t f g = omega (arith, ints, t.below)
half_ups n q (negsuc a) d some t f g = let m = times_more (negsuc a) (pos d) in let e = ap (λ x. x *ℤ pos d) t.next in omega (arith, ints, t.above, t.below)

half_downs : (n q q' : ℤ) (d : ℕ) → 0 < d → Tied n q q' d → unsigned_abs (q *ℤ pos d) < unsigned_abs n → unsigned_abs (q' *ℤ pos d) < unsigned_abs n → ⊥
half_downs n q q' d some t f g = by_sign ⊥ n (λ a. omega (arith, ints, t.above)) (λ b. omega (arith, ints, t.below))

half_evens : (q q' : ℤ) → q ≡ q' +ℤ pos 1 → unsigned_abs q % 2 ≡ 0 → unsigned_abs q' % 2 ≡ 0 → ⊥
half_evens q (pos a) e f g = let h : unsigned_abs q ≡ a + 1 = omega (arith, ints) in omega (arith, rw h at f)
half_evens q (negsuc a) e f g = let h : unsigned_abs q ≡ a = omega (arith, ints) in omega (arith, rw h at f)

halves : (P : ℤ → ℤ → Type 0) (n n' q q' : ℤ) (d : ℕ) → 0 < d → n ≤ℤ n' → q' <ℤ q → (Tied n q q' d → P n q → P n q' → ⊥) → IsNearest (P n q) n (pos d) q → IsNearest (P n' q') n' (pos d) q' → ⊥
halves P n n' q q' d some le less clash f g =
    let t = tied (P n q) (P n' q') n n' q q' d some le less f g in
    let near = f.near in
    let near' = g.near in
    let ties = t.0 in
    let p : P n q = f.at_tie (omega (arith, ints, ties.above, ties.below)) in
    let p' : P n' q' = g.at_tie (omega (arith, ints, ties.above, ties.below, t.1)) in
    clash t.0 p (subst (λ (x : ℤ). P x q') (sym t.1) p')

-- over one divisor
pub rises : (mode : Mode) (n n' q q' : ℤ) (d : ℕ) → 0 < d → n ≤ℤ n' → RoundsPositive mode n (pos d) q → RoundsPositive mode n' (pos d) q' → q' <ℤ q → ⊥
rises Down n n' q q' d some le f g less = downs n n' q q' d some le less f g
rises Up n n' q q' d some le f g less = ups n n' q q' d some le less f g
rises Floor n n' q q' d some le f g less = floors n n' q q' d some le less f g
rises Ceiling n n' q q' d some le f g less = ceilings n n' q q' d some le less f g
rises HalfUp n n' q q' d some le f g less = halves (λ m r. unsigned_abs m < unsigned_abs (r *ℤ pos d)) n n' q q' d some le less (λ t a b. half_ups n q q' d some t a b) f g
rises HalfDown n n' q q' d some le f g less = halves (λ m r. unsigned_abs (r *ℤ pos d) < unsigned_abs m) n n' q q' d some le less (λ t a b. half_downs n q q' d some t a b) f g
rises HalfEven n n' q q' d some le f g less = halves (λ m r. unsigned_abs r % 2 ≡ 0) n n' q q' d some le less (λ t a b. half_evens q q' t.next a b) f g

-- for a quotient that is no less the rounding is no less
pub rounds_rise : (mode : Mode) (n n' q q' : ℤ) (d d' : ℕ) → 0 < d → 0 < d' → (n *ℤ pos d') ≤ℤ (n' *ℤ pos d) → RoundsPositive mode n (pos d) q → RoundsPositive mode n' (pos d') q' → q ≤ℤ q'
rounds_rise mode n n' q q' d d' some some' le f g =
    let many : 0 < d * d' = grind arith in
    let g' = subst (λ (x : ℕ). RoundsPositive mode (n' *ℤ pos d) (pos x) q') (mul_comm d' d) (scaled mode n' q' d' d some g) in
    by_lt_z q' q (λ less. absurd (rises mode (n *ℤ pos d') (n' *ℤ pos d) q q' (d * d') many le (scaled mode n q d d' some' f) g' less)) (λ h. h)
