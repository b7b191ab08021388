-- A rounding stays the same where both parts of the quotient are multiplied.
use Rattle.std.proofs.Common.{◌≡◌, ℕ, suc, ◌*◌, ◌<◌, ℤ, pos, negsuc, ◌+ℤ◌, ◌-ℤ◌, ◌*ℤ◌, neg_ℤ, ◌≤ℤ◌, ◌<ℤ◌, unsigned_abs, arith, ap, sym, ◌∙◌, subst}
use Rattle.std.proofs.lemmas.Int.{ints, unsigned_abs-mul}
use Rattle.std.proofs.Math.Nat.{mul-le-mul_right}
use Rattle.scaled_decimal.specs.declared.rounding.Mode.{Mode}
use Rattle.scaled_decimal.specs.declared.rounding.Mode.TheVariants.{Down, Up, Floor, Ceiling, HalfUp, HalfDown, HalfEven}
use Rattle.scaled_decimal.specs.Rounding.{IsFloor, IsCeiling, IsNearest, RoundsPositive, Rounds}
use Rattle.scaled_decimal.specs.laws.RoundingLemmas.{turned}
use Rattle.scaled_decimal.specs.laws.IntegerLemmas.{times_assoc, times_neg, times_sub, le_times, lt_times}

floor_scaled : (n q : ℤ) (d k : ℕ) → 0 < k → IsFloor n (pos d) q → IsFloor (n *ℤ pos k) (pos (d * k)) q
floor_scaled n q d k some h = record {
  low = subst (λ x. x ≤ℤ (n *ℤ pos k)) (times_assoc q (pos d) (pos k)) (le_times (q *ℤ pos d) n k h.low);
  high = subst (λ x. (n *ℤ pos k) <ℤ x) (times_assoc (q +ℤ pos 1) (pos d) (pos k)) (lt_times n ((q +ℤ pos 1) *ℤ pos d) k some h.high);
}

ceiling_scaled : (n q : ℤ) (d k : ℕ) → 0 < k → IsCeiling n (pos d) q → IsCeiling (n *ℤ pos k) (pos (d * k)) q
ceiling_scaled n q d k some h = record {
  low = subst (λ x. x <ℤ (n *ℤ pos k)) (times_assoc (q -ℤ pos 1) (pos d) (pos k)) (lt_times ((q -ℤ pos 1) *ℤ pos d) n k some h.low);
  high = subst (λ x. (n *ℤ pos k) ≤ℤ x) (times_assoc q (pos d) (pos k)) (le_times n (q *ℤ pos d) k h.high);
}

above_back : (n : ℤ) (k : ℕ) → 0 < k → pos 0 ≤ℤ (n *ℤ pos k) → pos 0 ≤ℤ n
above_back (pos a) k some h = omega (arith, ints)
above_back (negsuc a) k some h = absurd (omega (arith, ints))

below_back : (n : ℤ) (k : ℕ) → (n *ℤ pos k) <ℤ pos 0 → n <ℤ pos 0
below_back (pos a) k h = absurd (omega (arith, ints))
below_back (negsuc a) k h = omega (arith, ints)

rest_scaled : (n q : ℤ) (d k : ℕ) → unsigned_abs (n *ℤ pos k -ℤ q *ℤ pos (d * k)) ≡ unsigned_abs (n -ℤ q *ℤ pos d) * k
rest_scaled n q d k =
    let inner : n *ℤ pos k -ℤ q *ℤ pos (d * k) ≡ (n -ℤ q *ℤ pos d) *ℤ pos k =
    ap (λ x. n *ℤ pos k -ℤ x) (sym (times_assoc q (pos d) (pos k))) ∙ sym (times_sub n (q *ℤ pos d) (pos k)) in
    ap unsigned_abs inner ∙ unsigned_abs-mul (n -ℤ q *ℤ pos d) (pos k)

not_less : (a b k : ℕ) → 0 < k → a * k ≡ b * k → ¬ (a < b)
not_less a b k some e l = let m = mul-le-mul_right k l in omega arith

pub same_back : (a b k : ℕ) → 0 < k → a * k ≡ b * k → a ≡ b
same_back a b k some e =
    let f = not_less a b k some e in
    let g = not_less b a k some (sym e) in
    omega arith

nearest_scaled : (tie tie' : Type 0) → (tie → tie') → (n q : ℤ) (d k : ℕ) → 0 < k → IsNearest tie n (pos d) q → IsNearest tie' (n *ℤ pos k) (pos (d * k)) q
nearest_scaled tie tie' f n q d k some h =
    let m = mul-le-mul_right k h.near in
    record {
      near = rw (rest_scaled n q d k) (omega arith);
      at_tie = λ e. f (h.at_tie (same_back _ _ k some (let e' = rw (rest_scaled n q d k) at e in omega arith)));
    }

abs_scaled : (n : ℤ) (k : ℕ) → unsigned_abs (n *ℤ pos k) ≡ unsigned_abs n * k
abs_scaled n k = unsigned_abs-mul n (pos k)

less_scaled : (a b : ℤ) (k : ℕ) → 0 < k → unsigned_abs a < unsigned_abs b → unsigned_abs (a *ℤ pos k) < unsigned_abs (b *ℤ pos k)
less_scaled a b k some h =
    let m = mul-le-mul_right k h in
    rw (abs_scaled a k, abs_scaled b k) (omega arith)

pub scaled : (mode : Mode) (n q : ℤ) (d k : ℕ) → 0 < k → RoundsPositive mode n (pos d) q → RoundsPositive mode (n *ℤ pos k) (pos (d * k)) q
scaled Down n q d k some h = record { above = λ a. floor_scaled n q d k some (h.above (above_back n k some a)); below = λ b. ceiling_scaled n q d k some (h.below (below_back n k b)) }
scaled Up n q d k some h = record { above = λ a. ceiling_scaled n q d k some (h.above (above_back n k some a)); below = λ b. floor_scaled n q d k some (h.below (below_back n k b)) }
scaled Floor n q d k some h = floor_scaled n q d k some h
scaled Ceiling n q d k some h = ceiling_scaled n q d k some h
scaled HalfUp n q d k some h = nearest_scaled _ _ (λ t. subst (λ x. unsigned_abs (n *ℤ pos k) < unsigned_abs x) (times_assoc q (pos d) (pos k)) (less_scaled n (q *ℤ pos d) k some t)) n q d k some h
scaled HalfDown n q d k some h = nearest_scaled _ _ (λ t. subst (λ x. unsigned_abs x < unsigned_abs (n *ℤ pos k)) (times_assoc q (pos d) (pos k)) (less_scaled (q *ℤ pos d) n k some t)) n q d k some h
scaled HalfEven n q d k some h = nearest_scaled _ _ (λ t. t) n q d k some h

-- the same where the divisor is below 0
pub rounds_scaled : (mode : Mode) (n d q : ℤ) (k : ℕ) → 0 < k → Rounds mode n d q → Rounds mode (n *ℤ pos k) (d *ℤ pos k) q
rounds_scaled mode n (pos d) q k some h = scaled mode n q d k some h
rounds_scaled mode n (negsuc d) q k some h =
    let positive = scaled mode (neg_ℤ n) q (suc d) k some h in
    let top = times_neg n (pos k) in
    let bottom : pos (suc d * k) ≡ neg_ℤ (negsuc d *ℤ pos k) = omega (arith, ints) in
    let below : (negsuc d *ℤ pos k) <ℤ pos 0 = omega (arith, ints) in
    turned mode (n *ℤ pos k) (negsuc d *ℤ pos k) q below (subst (λ (x : ℤ). RoundsPositive mode (neg_ℤ (n *ℤ pos k)) x q) bottom (subst (λ (x : ℤ). RoundsPositive mode x (pos (suc d * k)) q) top positive))
