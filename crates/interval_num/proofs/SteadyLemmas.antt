-- A rounded quotient lies between those at the ends, by the laws that every rounding has.
use Rattle.std.proofs.Common.{◌≡◌, ◌≢◌, ℕ, zero, suc, ◌+◌, ◌-◌, ◌*◌, ◌^◌, ◌<◌, ◌≤◌, ℤ, pos, negsuc, ◌-ℤ◌, ◌*ℤ◌, ◌≤ℤ◌, ◌<ℤ◌, neg_ℤ, unsigned_abs, int_le, Bool, true, false, ◌&&◌, refl, sym, ap, ◌∙◌, subst, inl, inr, ◌⊎◌, arith}
use Rattle.std.proofs.lemmas.Int.{ints, unsigned_abs-mul, by_lt_z}
use Rattle.std.proofs.lemmas.Bool.{cases_lt}
use Rattle.std.proofs.Math.Nat.{mul-le-mul_left, mul-le-mul_right, mul_comm, suc-mul, le-mul_of_pos_right, pow-le-pow_right}
use borrow.Author.Differences.{true_is_le, le_out}
use Rattle.scaled_decimal.specs.declared.rounding.Mode.{Mode}
use Rattle.scaled_decimal.specs.Rounding.{Rounds, IsAtMost, dividend_over}
use Rattle.scaled_decimal.specs.laws.RoundingLaws.{rounds_near, rounds_rising}
use Rattle.scaled_decimal.specs.laws.IntegerLemmas.{le_times, times_assoc, times_neg, times_swap, times_zero, some_abs}
use Rattle.scaled_decimal.specs.Decimals.{ten_to}
use Rattle.scaled_decimal.specs.RoundedDecimals.{rounded}
use Rattle.scaled_decimal.specs.RoundedDecimals.{rounded_is}
use Rattle.interval_num.specs.Intervals.{Interval}
use Rattle.interval_num.specs.Alignment.{has_zero}
use Rattle.interval_num.proofs.NumberLemmas.{longer, ten_some}
use Rattle.interval_num.proofs.CornerLemmas.{Between, IsSteady}

over_above : (d n : ℤ) → pos 0 ≤ℤ d → dividend_over d n ≡ n
over_above (pos d) n h = refl
over_above (negsuc d) n h = absurd (omega (arith, ints))

over_below : (d n : ℤ) → d <ℤ pos 0 → dividend_over d n ≡ neg_ℤ n
over_below (pos d) n h = absurd (omega (arith, ints))
over_below (negsuc d) n h = refl

-- products by two numbers that aren't below 0
le_factor : (m : ℤ) (j k : ℕ) → pos 0 ≤ℤ m → j ≤ k → (m *ℤ pos j) ≤ℤ (m *ℤ pos k)
le_factor (pos m) j k h l = let p = mul-le-mul_left m l in omega (arith, ints)
le_factor (negsuc m) j k h l = absurd (omega (arith, ints))

ge_factor : (m : ℤ) (j k : ℕ) → m ≤ℤ pos 0 → j ≤ k → (m *ℤ pos k) ≤ℤ (m *ℤ pos j)
ge_factor (pos zero) j k h l = omega (arith, ints)
ge_factor (pos (suc m)) j k h l = absurd (omega (arith, ints))
ge_factor (negsuc m) j k h l = let p = mul-le-mul_left (suc m) l in omega (arith, ints)

-- the order of quotients by one divisor
along_above : (m n d : ℤ) → pos 0 <ℤ d → m ≤ℤ n → IsAtMost m d n d
along_above m n d some h = rw (over_above d m (omega (arith, ints)), over_above d n (omega (arith, ints))) (le_times m n (unsigned_abs d) h)

along_below : (m n d : ℤ) → d <ℤ pos 0 → m ≤ℤ n → IsAtMost n d m d
along_below m n d neg h = rw (over_below d m neg, over_below d n neg) (le_times (neg_ℤ n) (neg_ℤ m) (unsigned_abs d) (omega (arith, ints)))

-- the order of quotients of one dividend, by two divisors of one sign
across_above : (m d e : ℤ) → pos 0 ≤ℤ m → pos 0 <ℤ d → d ≤ℤ e → IsAtMost m e m d
across_above m d e h some l = rw (over_above d m (omega (arith, ints)), over_above e m (omega (arith, ints))) (le_factor m (unsigned_abs d) (unsigned_abs e) h (omega (arith, ints)))

across_above_below : (m d e : ℤ) → m ≤ℤ pos 0 → pos 0 <ℤ d → d ≤ℤ e → IsAtMost m d m e
across_above_below m d e h some l = rw (over_above d m (omega (arith, ints)), over_above e m (omega (arith, ints))) (ge_factor m (unsigned_abs d) (unsigned_abs e) h (omega (arith, ints)))

across_below : (m d e : ℤ) → pos 0 ≤ℤ m → e <ℤ pos 0 → d ≤ℤ e → IsAtMost m e m d
across_below m d e h neg l = rw (over_below d m (omega (arith, ints)), over_below e m neg) (ge_factor (neg_ℤ m) (unsigned_abs e) (unsigned_abs d) (omega (arith, ints)) (omega (arith, ints)))

across_below_below : (m d e : ℤ) → m ≤ℤ pos 0 → e <ℤ pos 0 → d ≤ℤ e → IsAtMost m d m e
across_below_below m d e h neg l = rw (over_below d m (omega (arith, ints)), over_below e m neg) (le_factor (neg_ℤ m) (unsigned_abs e) (unsigned_abs d) (omega (arith, ints)) (omega (arith, ints)))

-- results that rise with the quotient
abbrev pub Rises : (ℤ → ℤ → ℤ) → Type 0
Rises f = (m d n e : ℤ) → d ≢ pos 0 → e ≢ pos 0 → IsAtMost m d n e → f m d ≤ℤ f n e

above_some : (d : ℤ) → pos 0 <ℤ d → d ≢ pos 0
above_some d h e = omega (arith, ints)

below_some : (d : ℤ) → d <ℤ pos 0 → d ≢ pos 0
below_some d h e = omega (arith, ints)

not_both : (s t : Bool) → s ≡ true → t ≡ true → (s && t) ≡ false → ⊥
not_both true true f g e = cc
not_both true false f g e = cc
not_both false t f g e = cc

-- an interval without zero has one sign
pub one_sign : (b : Interval) → b.lo ≤ℤ b.hi → has_zero b ≡ false → (pos 0 <ℤ b.lo) ⊎ (b.hi <ℤ pos 0)
one_sign b h e =
    by_lt_z (pos 0) b.lo inl (λ low.
    by_lt_z b.hi (pos 0) inr (λ high.
    absurd (not_both (int_le b.lo (pos 0)) (int_le (pos 0) b.hi) (sym (true_is_le b.lo (pos 0) (le_out b.lo (pos 0) low))) (sym (true_is_le (pos 0) b.hi (le_out (pos 0) b.hi high))) e)))

module _ (f : ℤ → ℤ → ℤ) (rises : Rises f) where
  along : (l x h d : ℤ) → l ≤ℤ x → x ≤ℤ h → (pos 0 <ℤ d) ⊎ (d <ℤ pos 0) → Between (f l d) (f x d) (f h d)
  along l x h d p q (inl some) = inl (rises l d x d (above_some d some) (above_some d some) (along_above l x d some p), rises x d h d (above_some d some) (above_some d some) (along_above x h d some q))
  along l x h d p q (inr neg) = inr (rises h d x d (below_some d neg) (below_some d neg) (along_below x h d neg q), rises x d l d (below_some d neg) (below_some d neg) (along_below l x d neg p))

  across_positive : (m l y h : ℤ) → pos 0 <ℤ l → l ≤ℤ y → y ≤ℤ h → Between (f m l) (f m y) (f m h)
  across_positive m l y h some p q =
      let sl = above_some l some in
      let sy = above_some y (omega (arith, ints)) in
      let sh = above_some h (omega (arith, ints)) in
      by_lt_z m (pos 0)
      (λ neg. inl (rises m l m y sl sy (across_above_below m l y (omega (arith, ints)) some p), rises m y m h sy sh (across_above_below m y h (omega (arith, ints)) (omega (arith, ints)) q)))
      (λ above. inr (rises m h m y sh sy (across_above m y h above (omega (arith, ints)) q), rises m y m l sy sl (across_above m l y above some p)))

  across_negative : (m l y h : ℤ) → h <ℤ pos 0 → l ≤ℤ y → y ≤ℤ h → Between (f m l) (f m y) (f m h)
  across_negative m l y h neg p q =
      let sl = below_some l (omega (arith, ints)) in
      let sy = below_some y (omega (arith, ints)) in
      let sh = below_some h neg in
      by_lt_z m (pos 0)
      (λ less. inl (rises m l m y sl sy (across_below_below m l y (omega (arith, ints)) (omega (arith, ints)) p), rises m y m h sy sh (across_below_below m y h (omega (arith, ints)) neg q)))
      (λ above. inr (rises m h m y sh sy (across_below m y h above neg q), rises m y m l sy sl (across_below m l y above (omega (arith, ints)) p)))

  across : (m l y h : ℤ) → l ≤ℤ y → y ≤ℤ h → (pos 0 <ℤ l) ⊎ (h <ℤ pos 0) → Between (f m l) (f m y) (f m h)
  across m l y h p q (inl some) = across_positive m l y h some p q
  across m l y h p q (inr neg) = across_negative m l y h neg p q

  sign_between : (l y h : ℤ) → l ≤ℤ y → y ≤ℤ h → (pos 0 <ℤ l) ⊎ (h <ℤ pos 0) → (pos 0 <ℤ y) ⊎ (y <ℤ pos 0)
  sign_between l y h p q (inl some) = inl (omega (arith, ints))
  sign_between l y h p q (inr neg) = inr (omega (arith, ints))

  pub quotient_steady : (a b : Interval) (x y : ℤ) → a.lo ≤ℤ x → x ≤ℤ a.hi → b.lo ≤ℤ y → y ≤ℤ b.hi → has_zero b ≡ false → IsSteady f a b x y
  quotient_steady a b x y p q r s e =
      let sign = one_sign b (omega (arith, ints)) e in
      record {
        along = along a.lo x a.hi y p q (sign_between b.lo y b.hi r s sign);
        low_across = across a.lo b.lo y b.hi r s sign;
        high_across = across a.hi b.lo y b.hi r s sign;
      }

-- a divisor between the ends isn't 0
pub divisor_some : (b : Interval) (y : ℤ) → b.lo ≤ℤ y → y ≤ℤ b.hi → has_zero b ≡ false → y ≢ pos 0
divisor_some b y p q e zero_is = elim (one_sign b (omega (arith, ints)) e) [ inl some ↦ absurd (omega (arith, ints)) | inr neg ↦ absurd (omega (arith, ints)) ]

-- quotients keep their order where all dividends are multiplied, and all divisors
times_some : (d : ℤ) (k : ℕ) → 0 < k → d ≢ pos 0 → d *ℤ pos k ≢ pos 0
times_some d k some h e = h (times_zero d k some e)

over_times : (d n : ℤ) (k j : ℕ) → 0 < k → dividend_over (d *ℤ pos k) (n *ℤ pos j) ≡ dividend_over d n *ℤ pos j
over_times (pos d) n k j some = refl
over_times (negsuc d) n k j some =
    let m : suc d ≤ suc d * k = omega (arith, mul-le-mul_left (suc d) some) in
    over_below (negsuc d *ℤ pos k) (n *ℤ pos j) (omega (arith, ints)) ∙ sym (times_neg n (pos j))

at_most_times : (m d n e : ℤ) (j k : ℕ) → 0 < k → IsAtMost m d n e → IsAtMost (m *ℤ pos j) (d *ℤ pos k) (n *ℤ pos j) (e *ℤ pos k)
at_most_times m d n e j k some h =
    let left = both (dividend_over d m) e in
    let right = both (dividend_over e n) d in
    rw (over_times d m k j some, over_times e n k j some, left, right) (le_times _ _ k (le_times _ _ j h))
  where
    both : (u v : ℤ) → (u *ℤ pos j) *ℤ pos (unsigned_abs (v *ℤ pos k)) ≡ ((u *ℤ pos (unsigned_abs v)) *ℤ pos j) *ℤ pos k
    both u v =
        ap (λ t. (u *ℤ pos j) *ℤ pos t) (unsigned_abs-mul v (pos k))
        ∙ sym (times_assoc (u *ℤ pos j) (pos (unsigned_abs v)) (pos k))
        ∙ ap (λ t. t *ℤ pos k) (times_swap u (pos j) (pos (unsigned_abs v)))

-- the rounding of numbers that two factors lengthen
pub rounded_rises : (mode : Mode) (j k : ℕ) → 0 < k → Rises (λ m d. rounded mode (m *ℤ pos j) (d *ℤ pos k))
rounded_rises mode j k some m d n e sd se h =
    rounds_rising mode (m *ℤ pos j) (d *ℤ pos k) (n *ℤ pos j) (e *ℤ pos k) (rounded mode (m *ℤ pos j) (d *ℤ pos k)) (rounded mode (n *ℤ pos j) (e *ℤ pos k)) (times_some d k some sd) (times_some e k some se) (at_most_times m d n e j k some h) (rounded_is mode (m *ℤ pos j) (d *ℤ pos k) (times_some d k some sd)) (rounded_is mode (n *ℤ pos j) (e *ℤ pos k) (times_some e k some se))

-- a rounding is no greater than its dividend, which the powers lengthen by no more than their difference
pub rounded_small : (mode : Mode) (n d q : ℤ) (i j : ℕ) → d ≢ pos 0 → Rounds mode (n *ℤ ten_to i) (d *ℤ ten_to j) q → unsigned_abs q ≤ unsigned_abs (n *ℤ ten_to (i - j))
rounded_small mode n d q i j some r = elim (cases_lt (unsigned_abs (n *ℤ ten_to (i - j))) (unsigned_abs q)) [
  | inl less ↦ absurd (
      let near = rounds_near mode (n *ℤ ten_to i) (d *ℤ ten_to j) q (times_some d (10 ^ j) (ten_some j) some) r in
      let product = unsigned_abs-mul q (d *ℤ ten_to j) in
      let divisor = unsigned_abs-mul d (ten_to j) in
      let long = longer_than n i j in
      let more = mul-le-mul_right (unsigned_abs (d *ℤ ten_to j)) less in
      let grown : 10 ^ j ≤ unsigned_abs d * 10 ^ j = rw (mul_comm (unsigned_abs d) (10 ^ j)) (le-mul_of_pos_right (10 ^ j) (some_abs d some)) in
      let wide = mul-le-mul_left (unsigned_abs (n *ℤ ten_to (i - j))) (subst (λ t. 10 ^ j ≤ t) (sym divisor) grown) in
      apart (unsigned_abs (n *ℤ ten_to (i - j))) (unsigned_abs q) (unsigned_abs (d *ℤ ten_to j)) _ (unsigned_abs (n *ℤ ten_to i)) more (let t = triangle (q *ℤ (d *ℤ ten_to j)) (n *ℤ ten_to i) in omega arith) near (omega arith))
  | inr le ↦ le
] where
  triangle : (a b : ℤ) → unsigned_abs a ≤ unsigned_abs b + unsigned_abs (b -ℤ a)
  triangle a b = omega (arith, ints)

  longer_than : (n : ℤ) (i j : ℕ) → unsigned_abs (n *ℤ ten_to i) ≤ unsigned_abs (n *ℤ ten_to (i - j)) * 10 ^ j
  longer_than n i j =
      let size = unsigned_abs-mul (n *ℤ ten_to (i - j)) (ten_to j) in
      let joined = ap unsigned_abs (longer n (i - j) j (i - j + j) refl) in
      let left = unsigned_abs-mul n (ten_to i) in
      let right = unsigned_abs-mul n (ten_to (i - j + j)) in
      let power : 10 ^ i ≤ 10 ^ (i - j + j) = pow-le-pow_right {n = 10} (omega arith) (omega arith) in
      let more = mul-le-mul_left (unsigned_abs n) power in
      omega arith

  apart : (m q d left n : ℕ) → suc m * d ≤ q * d → q * d ≤ n + left → left < d → n ≤ m * d → ⊥
  apart m q d left n more total small bound =
      let next = suc-mul m d in
      omega arith
