-- Differences of amounts within the bound of outputs: they are kept, and with them filed the sum is what is reported.
use Rattle.std.proofs.Common.{◌≡◌, ℕ, ◌+◌, ◌-◌, ◌^◌, ◌≤◌, ℤ, pos, ◌+ℤ◌, ◌-ℤ◌, ◌*ℤ◌, unsigned_abs, sym, ap, subst, ◌∙◌, arith}
use Rattle.std.specs.declared.cmp.Ordering.TheVariants.{Equal}
use Rattle.std.specs.Ordering.{int_cmp}
use Rattle.std.specs.Cmp.{int_cmp_total}
use Rattle.std.proofs.lemmas.Cmp.{tied_back, tied_itself}
use Rattle.std.proofs.lemmas.Int.{ints}
use Rattle.scaled_decimal.specs.Decimals.{Decimal, decimal, difference, greater_scale, numerator_at, numerator_of, scale_of, sum, ten_to, value_order}
use Rattle.scaled_decimal.specs.Limits.{IsWithinLimit}
use Rattle.scaled_decimal.specs.WorkingNumbers.{DifferenceFits, SumFits}
use Rattle.scaled_decimal.proofs.Laws.{ten_add, times_assoc}
use Rattle.limits_file.specs.Limits.{IsWithinBound}
use Rattle.carry_bindings.specs.Carrying.{zero_amount}
use Rattle.carry_bindings.proofs.Laws.{abs_grows}

-- the numerator at more places
longer : (s m : ℕ) (d : Decimal) → scale_of d ≤ s → s ≤ m → numerator_at s d *ℤ ten_to (m - s) ≡ numerator_at m d
longer s m d l k =
    times_assoc (numerator_of d) (ten_to (s - scale_of d)) (ten_to (m - s))
    ∙ ap (λ x. numerator_of d *ℤ x) (ten_add (s - scale_of d) (m - s) (m - scale_of d) (omega arith))

at_fewer : (s m n : ℕ) (d : Decimal) → scale_of d ≤ s → s ≤ m → unsigned_abs (numerator_at m d) ≤ n →
    unsigned_abs (numerator_at s d) ≤ n
at_fewer s m n d l k h =
    let grown = abs_grows (numerator_at s d) (m - s) in
    let same = ap unsigned_abs (longer s m d l k) in
    omega arith

times_one : (x : ℤ) → x *ℤ ten_to 0 ≡ x
times_one x = omega (arith, ints)

no_more : (s : ℕ) → s - s ≡ 0
no_more s = omega arith

-- a numerator at its own scale
own : (s : ℕ) (n : ℤ) → numerator_at s (decimal n s) ≡ n
own s n = ap (λ k. n *ℤ ten_to k) (no_more s) ∙ times_one n

abs_minus : (x y : ℤ) → unsigned_abs (x -ℤ y) ≤ unsigned_abs x + unsigned_abs y
abs_minus x y = omega (arith, ints)

back_again : (x y : ℤ) → y +ℤ (x -ℤ y) ≡ x
back_again x y = omega (arith, ints)

-- ---- two amounts within the bound

module _ (r f : Decimal) (h : IsWithinBound r) (k : IsWithinBound f) where
  top : greater_scale r f ≤ 12
  top = omega (arith, h.places, k.places)

  left : unsigned_abs (numerator_at (greater_scale r f) r) ≤ 10 ^ 32
  left = at_fewer (greater_scale r f) 12 (10 ^ 32) r (omega arith) top h.small

  right : unsigned_abs (numerator_at (greater_scale r f) f) ≤ 10 ^ 32
  right = at_fewer (greater_scale r f) 12 (10 ^ 32) f (omega arith) top k.small

  pub difference_fits : DifferenceFits r f
  difference_fits =
      let l = left in
      let m = right in
      let both = abs_minus (numerator_at (greater_scale r f) r) (numerator_at (greater_scale r f) f) in
      record { left = omega arith; right = omega arith; result = omega arith }

-- ---- a difference filed

module _ (r f : Decimal) where
  s : ℕ
  s = greater_scale r f

  same_scale : greater_scale f (difference r f) ≡ greater_scale r f
  same_scale = omega arith

  pub settled_is : sum f (difference r f) ≡ decimal (numerator_at (greater_scale r f) r) (greater_scale r f)
  settled_is =
      ap (λ t. decimal (numerator_at t f +ℤ numerator_at t (difference r f)) t) same_scale
      ∙ ap (λ n. decimal (numerator_at (greater_scale r f) f +ℤ n) (greater_scale r f)) (own (greater_scale r f) (numerator_at (greater_scale r f) r -ℤ numerator_at (greater_scale r f) f))
      ∙ ap (λ n. decimal n (greater_scale r f)) (back_again (numerator_at (greater_scale r f) r) (numerator_at (greater_scale r f) f))

  -- what is filed then has the value of what is reported
  pub settled_order : value_order (sum f (difference r f)) r ≡ Equal
  settled_order =
      ap (λ d. value_order d r) settled_is
      ∙ ap (λ n. int_cmp n (numerator_of r *ℤ ten_to (greater_scale r f))) (longer_own)
      ∙ tied_itself int_cmp_total (numerator_of r *ℤ ten_to (greater_scale r f))
    where
      longer_own : numerator_at (greater_scale r f) r *ℤ ten_to (scale_of r) ≡ numerator_of r *ℤ ten_to (greater_scale r f)
      longer_own =
          times_assoc (numerator_of r) (ten_to (greater_scale r f - scale_of r)) (ten_to (scale_of r))
          ∙ ap (λ x. numerator_of r *ℤ x) (ten_add (greater_scale r f - scale_of r) (scale_of r) (greater_scale r f) (omega arith))

  pub settled_bounded : IsWithinBound r → IsWithinBound f → IsWithinBound (sum f (difference r f))
  settled_bounded h k =
      let t : greater_scale r f ≤ 12 = top r f h k in
      let long = longer (greater_scale r f) 12 r (omega arith) t in
      let small = h.small in
      subst IsWithinBound (sym settled_is) (record { places = t; small = rw long small })

  record FitAt (t : ℕ) : Type 0 where
    pub left : IsWithinLimit (numerator_at t f)
    pub right : IsWithinLimit (numerator_at t (difference r f))
    pub result : IsWithinLimit (numerator_at t f +ℤ numerator_at t (difference r f))

  pub sum_fits : IsWithinBound r → IsWithinBound f → SumFits f (difference r f)
  sum_fits h k =
      let m = right r f h k in
      let l = left r f h k in
      let both = abs_minus (numerator_at (greater_scale r f) r) (numerator_at (greater_scale r f) f) in
      let diff = own (greater_scale r f) (numerator_at (greater_scale r f) r -ℤ numerator_at (greater_scale r f) f) in
      let fits : FitAt (greater_scale r f) = record {
        left = omega arith;
        right = rw diff (omega arith);
        result = rw (diff, back_again (numerator_at (greater_scale r f) r) (numerator_at (greater_scale r f) f)) (omega arith);
      } in
      let there = subst FitAt (sym same_scale) fits in
      record { left = there.left; right = there.right; result = there.result }

pub order_back : (a b : Decimal) → value_order a b ≡ Equal → value_order b a ≡ Equal
order_back a b e = tied_back int_cmp_total (numerator_of a *ℤ ten_to (scale_of b)) (numerator_of b *ℤ ten_to (scale_of a)) e

-- ---- zero

pub sum_zero : (f : Decimal) → sum f zero_amount ≡ f
sum_zero f =
    ap (λ t. decimal (numerator_at t f +ℤ numerator_at t zero_amount) t) whole
    ∙ ap (λ n. decimal n (scale_of f)) (nothing (numerator_at (scale_of f) f) (numerator_at (scale_of f) zero_amount) none ∙ own (scale_of f) (numerator_of f))
  where
    whole : greater_scale f zero_amount ≡ scale_of f
    whole = omega arith

    none : numerator_at (scale_of f) zero_amount ≡ pos 0
    none = omega (arith, ints)

    nothing : (x y : ℤ) → y ≡ pos 0 → x +ℤ y ≡ x
    nothing x y e = omega (arith, ints)

pub zero_bounded : IsWithinBound zero_amount
zero_bounded = record { places = omega arith; small = omega (arith, ints) }
