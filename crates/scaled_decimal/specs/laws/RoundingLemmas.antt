-- A quotient that was cut towards zero, and moved by `moves_away`, is the rounding.
use Rattle.std.proofs.Common.{◌≡◌, ℕ, ◌+◌, ◌-◌, ◌*◌, ◌<◌, ◌≤◌, ◌/◌, ◌%◌, suc, Bool, true, false, ℤ, pos, negsuc, ◌+ℤ◌, ◌-ℤ◌, ◌*ℤ◌, neg_ℤ, ◌≤ℤ◌, ◌<ℤ◌, unsigned_abs, arith}
use Rattle.std.proofs.lemmas.Int.{ints, quot-rem}
use Rattle.std.specs.Prelude.{int_div, int_rem, int_lt}
use Rattle.std.proofs.Common.{nat_eq}
use Rattle.std.proofs.lemmas.Bool.Decides.{nat_tests}
use Rattle.scaled_decimal.specs.declared.rounding.Mode.{Mode}
use Rattle.scaled_decimal.specs.declared.rounding.Mode.TheVariants.{Down, Up, Floor, Ceiling, HalfUp, HalfDown, HalfEven}
use native.Mathlib.Nat.{div-le_self, mod-le}
use Rattle.scaled_decimal.specs.Rounding.{IsFloor, IsCeiling, IsNearest, RoundsPositive, Rounds}
use Rattle.scaled_decimal.specs.private.RoundingDecision.{moves_away}
use Rattle.scaled_decimal.specs.laws.IntegerLemmas.{times_more, times_less, times_neg}

-- a is k times d, and r is left
pub record Split (a d k r : ℕ) : Type 0 where
  pub total : a ≡ k * d + r
  pub small : r < d

floor_above : (a d k r : ℕ) → Split a d k r → IsFloor (pos a) (pos d) (pos k)
floor_above a d k r s = record { low = omega (arith, ints); high = omega (arith, ints) }

ceiling_above : (a d k r : ℕ) → Split a d k r → 0 < r → IsCeiling (pos a) (pos d) (pos k +ℤ pos 1)
ceiling_above a d k r s some = record { low = omega (arith, ints, times_less (pos k +ℤ pos 1) (pos d)); high = omega (arith, ints) }

ceiling_below : (a d k r : ℕ) → Split a d k r → IsCeiling (neg_ℤ (pos a)) (pos d) (neg_ℤ (pos k))
ceiling_below a d k r s =
    let n = times_neg (pos k) (pos d) in
    record { low = omega (arith, ints, times_less (neg_ℤ (pos k)) (pos d)); high = omega (arith, ints) }

floor_below : (a d k r : ℕ) → Split a d k r → 0 < r → IsFloor (neg_ℤ (pos a)) (pos d) (neg_ℤ (pos k) -ℤ pos 1)
floor_below a d k r s some =
    let n = times_neg (pos k) (pos d) in
    let l = times_less (neg_ℤ (pos k)) (pos d) in
    record { low = omega (arith, ints); high = omega (arith, ints, times_more (neg_ℤ (pos k) -ℤ pos 1) (pos d)) }

near_above : (a d k r : ℕ) → Split a d k r → unsigned_abs (pos a -ℤ pos k *ℤ pos d) ≡ r
near_above a d k r s = omega (arith, ints)

far_above : (a d k r : ℕ) → Split a d k r → unsigned_abs (pos a -ℤ (pos k +ℤ pos 1) *ℤ pos d) + r ≡ d
far_above a d k r s = omega (arith, ints)

near_below : (a d k r : ℕ) → Split a d k r → unsigned_abs (neg_ℤ (pos a) -ℤ neg_ℤ (pos k) *ℤ pos d) ≡ r
near_below a d k r s =
    let n = times_neg (pos k) (pos d) in
    omega (arith, ints)

far_below : (a d k r : ℕ) → Split a d k r → unsigned_abs (neg_ℤ (pos a) -ℤ (neg_ℤ (pos k) -ℤ pos 1) *ℤ pos d) + r ≡ d
far_below a d k r s =
    let n = times_neg (pos k) (pos d) in
    let l = times_less (neg_ℤ (pos k)) (pos d) in
    omega (arith, ints)

nearest : (tie : Type 0) (n d q : ℤ) (m : ℕ) → unsigned_abs (n -ℤ q *ℤ d) ≡ m → 2 * m ≤ unsigned_abs d → (2 * m ≡ unsigned_abs d → tie) → IsNearest tie n d q
nearest tie n d q m e l t = record { near = rw e l; at_tie = λ h. t (rw e at h) }

abbrev pub is_odd : ℕ → Bool
is_odd k = nat_eq (k % 2) 1

-- nothing moves: the cut quotient is the rounding
pub cut_above : (mode : Mode) (a d k r : ℕ) → Split a d k r → 0 < r → moves_away mode false (is_odd k) (2 * r) d ≡ false → RoundsPositive mode (pos a) (pos d) (pos k)
cut_above Down a d k r s some e = record { above = λ _. floor_above a d k r s; below = λ h. absurd (omega (arith, ints)) }
cut_above Up a d k r s some e = absurd (cc)
cut_above Floor a d k r s some e = floor_above a d k r s
cut_above Ceiling a d k r s some e = absurd (cc)
cut_above HalfUp a d k r s some e =
    let under : 2 * r < d = grind (arith, nat_tests) in
    nearest _ _ _ _ r (near_above a d k r s) (omega arith) (λ t. absurd (omega arith))
cut_above HalfDown a d k r s some e =
    let under : 2 * r ≤ d = grind (arith, nat_tests) in
    nearest _ _ _ _ r (near_above a d k r s) (omega arith) (λ t. omega arith)
cut_above HalfEven a d k r s some e =
    let under : 2 * r ≤ d = grind (arith, nat_tests) in
    let even : 2 * r ≡ d → k % 2 ≡ 0 = λ t. grind (arith, nat_tests) in
    nearest _ _ _ _ r (near_above a d k r s) (omega arith) even

-- one away from zero is the rounding
pub moved_above : (mode : Mode) (a d k r : ℕ) → Split a d k r → 0 < r → moves_away mode false (is_odd k) (2 * r) d ≡ true → RoundsPositive mode (pos a) (pos d) (pos k +ℤ pos 1)
moved_above Down a d k r s some e = absurd (cc)
moved_above Up a d k r s some e = record { above = λ _. ceiling_above a d k r s some; below = λ h. absurd (omega (arith, ints)) }
moved_above Floor a d k r s some e = absurd (cc)
moved_above Ceiling a d k r s some e = ceiling_above a d k r s some
moved_above HalfUp a d k r s some e =
    let over : d ≤ 2 * r = grind (arith, nat_tests) in
    nearest _ _ _ _ (d - r) (omega (arith, far_above a d k r s)) (omega arith) (λ t. omega arith)
moved_above HalfDown a d k r s some e =
    let over : d < 2 * r = grind (arith, nat_tests) in
    nearest _ _ _ _ (d - r) (omega (arith, far_above a d k r s)) (omega arith) (λ t. absurd (omega arith))
moved_above HalfEven a d k r s some e =
    let over : d ≤ 2 * r = grind (arith, nat_tests) in
    let even : 2 * r ≡ d → (k + 1) % 2 ≡ 0 = λ t. (let odd : k % 2 ≡ 1 = grind (arith, nat_tests) in omega arith) in
    nearest _ _ _ _ (d - r) (omega (arith, far_above a d k r s)) (omega arith) (λ t. even (omega arith))

pub cut_below : (mode : Mode) (a d k r : ℕ) → Split a d k r → 0 < a → 0 < r → moves_away mode true (is_odd k) (2 * r) d ≡ false → RoundsPositive mode (neg_ℤ (pos a)) (pos d) (neg_ℤ (pos k))
cut_below Down a d k r s neg some e = record { above = λ h. absurd (omega (arith, ints)); below = λ _. ceiling_below a d k r s }
cut_below Up a d k r s neg some e = absurd (cc)
cut_below Floor a d k r s neg some e = absurd (cc)
cut_below Ceiling a d k r s neg some e = ceiling_below a d k r s
cut_below HalfUp a d k r s neg some e =
    let under : 2 * r < d = grind (arith, nat_tests) in
    nearest _ _ _ _ r (near_below a d k r s) (omega arith) (λ t. absurd (omega arith))
cut_below HalfDown a d k r s neg some e =
    let under : 2 * r ≤ d = grind (arith, nat_tests) in
    let n = times_neg (pos k) (pos d) in
    nearest _ _ _ _ r (near_below a d k r s) (omega arith) (λ t. omega (arith, ints))
cut_below HalfEven a d k r s neg some e =
    let under : 2 * r ≤ d = grind (arith, nat_tests) in
    let even : 2 * r ≡ d → k % 2 ≡ 0 = λ t. grind (arith, nat_tests) in
    let size : unsigned_abs (neg_ℤ (pos k)) ≡ k = omega (arith, ints) in
    nearest _ _ _ _ r (near_below a d k r s) (omega arith) (λ t. rw size (even t))

pub moved_below : (mode : Mode) (a d k r : ℕ) → Split a d k r → 0 < a → 0 < r → moves_away mode true (is_odd k) (2 * r) d ≡ true → RoundsPositive mode (neg_ℤ (pos a)) (pos d) (neg_ℤ (pos k) -ℤ pos 1)
moved_below Down a d k r s neg some e = absurd (cc)
moved_below Up a d k r s neg some e = record { above = λ h. absurd (omega (arith, ints)); below = λ _. floor_below a d k r s some }
moved_below Floor a d k r s neg some e = floor_below a d k r s some
moved_below Ceiling a d k r s neg some e = absurd (cc)
moved_below HalfUp a d k r s neg some e =
    let over : d ≤ 2 * r = grind (arith, nat_tests) in
    let n = times_neg (pos k) (pos d) in
    let l = times_less (neg_ℤ (pos k)) (pos d) in
    nearest _ _ _ _ (d - r) (omega (arith, far_below a d k r s)) (omega arith) (λ t. omega (arith, ints))
moved_below HalfDown a d k r s neg some e =
    let over : d < 2 * r = grind (arith, nat_tests) in
    nearest _ _ _ _ (d - r) (omega (arith, far_below a d k r s)) (omega arith) (λ t. absurd (omega arith))
moved_below HalfEven a d k r s neg some e =
    let over : d ≤ 2 * r = grind (arith, nat_tests) in
    let even : 2 * r ≡ d → (k + 1) % 2 ≡ 0 = λ t. (let odd : k % 2 ≡ 1 = grind (arith, nat_tests) in omega arith) in
    let size : unsigned_abs (neg_ℤ (pos k) -ℤ pos 1) ≡ k + 1 = omega (arith, ints) in
    nearest _ _ _ _ (d - r) (omega (arith, far_below a d k r s)) (omega arith) (λ t. rw size (even (omega arith)))

-- nothing is left
floor_exact : (n q : ℤ) (d : ℕ) → 0 < d → n ≡ q *ℤ pos d → IsFloor n (pos d) q
floor_exact n q d some e = let m = times_more q (pos d) in record { low = omega (arith, ints); high = omega (arith, ints) }

ceiling_exact : (n q : ℤ) (d : ℕ) → 0 < d → n ≡ q *ℤ pos d → IsCeiling n (pos d) q
ceiling_exact n q d some e = let m = times_less q (pos d) in record { low = omega (arith, ints); high = omega (arith, ints) }

nearest_exact : (tie : Type 0) (n q : ℤ) (d : ℕ) → 0 < d → n ≡ q *ℤ pos d → IsNearest tie n (pos d) q
nearest_exact tie n q d some e = nearest tie n (pos d) q 0 (omega (arith, ints)) (omega arith) (λ t. absurd (omega arith))

pub exact : (mode : Mode) (n q : ℤ) (d : ℕ) → 0 < d → n ≡ q *ℤ pos d → RoundsPositive mode n (pos d) q
exact Down n q d some e = record { above = λ _. floor_exact n q d some e; below = λ _. ceiling_exact n q d some e }
exact Up n q d some e = record { above = λ _. ceiling_exact n q d some e; below = λ _. floor_exact n q d some e }
exact Floor n q d some e = floor_exact n q d some e
exact Ceiling n q d some e = ceiling_exact n q d some e
exact HalfUp n q d some e = nearest_exact _ n q d some e
exact HalfDown n q d some e = nearest_exact _ n q d some e
exact HalfEven n q d some e = nearest_exact _ n q d some e

split_of : (a d : ℕ) → 0 < d → Split a d (a / d) (a % d)
split_of a d some = record { total = omega arith; small = omega arith }

abs_neg : (k : ℕ) → unsigned_abs (neg_ℤ (pos k)) ≡ k
abs_neg k = omega (arith, ints)

not_below : (a : ℕ) → int_lt (pos a) (pos 0) ≡ false
not_below a = grind (arith, nat_tests)

-- the same, at the code's quotient and remainder
pub stays : (mode : Mode) (n d : ℤ) → pos 0 <ℤ d → 0 < unsigned_abs (int_rem n d) → moves_away mode (int_lt n (pos 0)) (is_odd (unsigned_abs (int_div n d))) (2 * unsigned_abs (int_rem n d)) (unsigned_abs d) ≡ false → RoundsPositive mode n d (int_div n d)
stays mode (pos a) (pos d) p some e = cut_above mode a d (a / d) (a % d) (split_of a d (omega (arith, ints))) some (rw not_below at e)
stays mode (negsuc a) (pos d) p some e = cut_below mode (suc a) d (suc a / d) (suc a % d) (split_of (suc a) d (omega (arith, ints))) (omega arith) (rw abs_neg at some) (simp abs_neg at e)
stays mode n (negsuc d) p some e = absurd (omega (arith, ints))

pub moves_up : (mode : Mode) (n d : ℤ) → pos 0 <ℤ d → pos 0 ≤ℤ n → 0 < unsigned_abs (int_rem n d) → moves_away mode (int_lt n (pos 0)) (is_odd (unsigned_abs (int_div n d))) (2 * unsigned_abs (int_rem n d)) (unsigned_abs d) ≡ true → RoundsPositive mode n d (int_div n d +ℤ pos 1)
moves_up mode (pos a) (pos d) p q some e = moved_above mode a d (a / d) (a % d) (split_of a d (omega (arith, ints))) some (rw not_below at e)
moves_up mode (negsuc a) d p q some e = absurd (omega (arith, ints))
moves_up mode (pos a) (negsuc d) p q some e = absurd (omega (arith, ints))

pub moves_down : (mode : Mode) (n d : ℤ) → pos 0 <ℤ d → n <ℤ pos 0 → 0 < unsigned_abs (int_rem n d) → moves_away mode (int_lt n (pos 0)) (is_odd (unsigned_abs (int_div n d))) (2 * unsigned_abs (int_rem n d)) (unsigned_abs d) ≡ true → RoundsPositive mode n d (int_div n d -ℤ pos 1)
moves_down mode (negsuc a) (pos d) p q some e = moved_below mode (suc a) d (suc a / d) (suc a % d) (split_of (suc a) d (omega (arith, ints))) (omega arith) (rw abs_neg at some) (simp abs_neg at e)
moves_down mode (pos a) d p q some e = absurd (omega (arith, ints))
moves_down mode (negsuc a) (negsuc d) p q some e = absurd (omega (arith, ints))

pub divides : (mode : Mode) (n d : ℤ) → pos 0 <ℤ d → unsigned_abs (int_rem n d) ≡ 0 → RoundsPositive mode n d (int_div n d)
divides mode (pos a) (pos d) p e = exact mode (pos a) (pos (a / d)) d (omega (arith, ints)) (let s = split_of a d (omega (arith, ints)) in omega (arith, ints))
divides mode (negsuc a) (pos d) p e =
    let left = rw abs_neg at e in
    let s = split_of (suc a) d (omega (arith, ints)) in
    let t = times_neg (pos (suc a / d)) (pos d) in
    exact mode (negsuc a) (neg_ℤ (pos (suc a / d))) d (omega (arith, ints)) (omega (arith, ints))
divides mode n (negsuc d) p e = absurd (omega (arith, ints))

-- a quotient is no larger than its dividend
pub mag_quot : (n d : ℤ) → unsigned_abs (int_div n d) ≤ unsigned_abs n
mag_quot (pos a) (pos d) = div-le_self a d
mag_quot (pos a) (negsuc d) = rw abs_neg (div-le_self a (suc d))
mag_quot (negsuc a) (pos d) = rw abs_neg (div-le_self (suc a) d)
mag_quot (negsuc a) (negsuc d) = div-le_self (suc a) (suc d)

-- what is left of a dividend
pub left_over : (n d : ℤ) → n -ℤ int_div n d *ℤ d ≡ int_rem n d
left_over n d = let e = quot-rem n d in omega (arith, ints)

pub part_bound : (n d : ℤ) → unsigned_abs (int_div n d *ℤ d) ≤ 2 * unsigned_abs n
part_bound n d = let e = quot-rem n d in let m = rem_bound n d in omega (arith, ints) where
  rem_bound : (a b : ℤ) → unsigned_abs (int_rem a b) ≤ unsigned_abs a
  rem_bound (pos a) (pos b) = mod-le a b
  rem_bound (pos a) (negsuc b) = mod-le a (suc b)
  rem_bound (negsuc a) (pos b) = rw abs_neg (mod-le (suc a) b)
  rem_bound (negsuc a) (negsuc b) = rw abs_neg (mod-le (suc a) (suc b))

-- both signs change
pub turned : (mode : Mode) (n d q : ℤ) → d <ℤ pos 0 → RoundsPositive mode (neg_ℤ n) (neg_ℤ d) q → Rounds mode n d q
turned mode n (pos d) q neg h = absurd (omega (arith, ints))
turned mode n (negsuc d) q neg h = h
