-- A result lies between the results at the ends, where it lies between two in each operand.
use Rattle.std.proofs.Common.{◌≡◌, ℕ, suc, ◌+◌, ◌-◌, ◌≤◌, ℤ, pos, negsuc, ◌*ℤ◌, ◌≤ℤ◌, unsigned_abs, nat_lt, List, [], ◌∷◌, All, Ok, sym, ap, ◌∙◌, subst, inl, inr, ◌⊎◌, arith}
use Rattle.std.proofs.lemmas.Int.{ints, clamps, unsigned_abs-mul}
use Rattle.std.proofs.lemmas.Bool.Decides.{nat_tests}
use Rattle.std.proofs.lemmas.Nat.{mul-le}
use Rattle.std.proofs.lemmas.List.Elements.{All-nil, All-cons}
use Rattle.std.proofs.Math.IntN.{*ℤ_comm}
use Rattle.scaled_decimal.specs.laws.IntegerLemmas.{le_times, times_assoc, times_swap, times_neg_right}
use Rattle.scaled_decimal.specs.Decimals.{numerator_of, scale_of, numerator_at, ten_to}
use Rattle.scaled_decimal.specs.Limits.{IsWithinLimit, most_places}
use Rattle.interval_num.specs.declared.cause.RangeCause.TheVariants.{Wide, Scale}
use Rattle.interval_num.specs.Intervals.{Interval, Contains}
use Rattle.interval_num.specs.Alignment.{unless, is_beyond, least, greatest, hull, corners, greatest_magnitude}
use Rattle.interval_num.specs.Rows.{product_row}
use Rattle.interval_num.specs.Soundness.{ProductIsSound}
use Rattle.interval_num.proofs.NumberLemmas.{longer, times_one, within_out, kept_shorter}
use Rattle.interval_num.proofs.AlignmentLemmas.{unless_ok, ok_is}

-- z lies between u and v, whichever is less
abbrev pub Between : ℤ → ℤ → ℤ → Type 0
Between u z v = ((u ≤ℤ z) × (z ≤ℤ v)) ⊎ ((v ≤ℤ z) × (z ≤ℤ u))

abbrev four : ℤ → ℤ → ℤ → ℤ → List ℤ
four p q r s = p ∷ (q ∷ (r ∷ (s ∷ [])))

corner_low : (p q r s z u v : ℤ) → Between p u q → Between r v s → Between u z v → least (four p q r s) ≤ℤ z
corner_low p q r s z u v (inl f) (inl g) (inl h) = omega (arith, ints, clamps, f.0, h.0)
corner_low p q r s z u v (inl f) (inl g) (inr h) = omega (arith, ints, clamps, g.0, h.0)
corner_low p q r s z u v (inl f) (inr g) (inl h) = omega (arith, ints, clamps, f.0, h.0)
corner_low p q r s z u v (inl f) (inr g) (inr h) = omega (arith, ints, clamps, g.0, h.0)
corner_low p q r s z u v (inr f) (inl g) (inl h) = omega (arith, ints, clamps, f.0, h.0)
corner_low p q r s z u v (inr f) (inl g) (inr h) = omega (arith, ints, clamps, g.0, h.0)
corner_low p q r s z u v (inr f) (inr g) (inl h) = omega (arith, ints, clamps, f.0, h.0)
corner_low p q r s z u v (inr f) (inr g) (inr h) = omega (arith, ints, clamps, g.0, h.0)

corner_high : (p q r s z u v : ℤ) → Between p u q → Between r v s → Between u z v → z ≤ℤ greatest (four p q r s)
corner_high p q r s z u v (inl f) (inl g) (inl h) = omega (arith, ints, clamps, g.1, h.1)
corner_high p q r s z u v (inl f) (inl g) (inr h) = omega (arith, ints, clamps, f.1, h.1)
corner_high p q r s z u v (inl f) (inr g) (inl h) = omega (arith, ints, clamps, g.1, h.1)
corner_high p q r s z u v (inl f) (inr g) (inr h) = omega (arith, ints, clamps, f.1, h.1)
corner_high p q r s z u v (inr f) (inl g) (inl h) = omega (arith, ints, clamps, g.1, h.1)
corner_high p q r s z u v (inr f) (inl g) (inr h) = omega (arith, ints, clamps, f.1, h.1)
corner_high p q r s z u v (inr f) (inr g) (inl h) = omega (arith, ints, clamps, g.1, h.1)
corner_high p q r s z u v (inr f) (inr g) (inr h) = omega (arith, ints, clamps, f.1, h.1)

-- an operation whose results lie between those at the ends of either operand
pub record IsSteady (f : ℤ → ℤ → ℤ) (a b : Interval) (x y : ℤ) : Type 0 where
  pub along : Between (f a.lo y) (f x y) (f a.hi y)
  pub low_across : Between (f a.lo b.lo) (f a.lo y) (f a.lo b.hi)
  pub high_across : Between (f a.hi b.lo) (f a.hi y) (f a.hi b.hi)

pub corners_low : (f : ℤ → ℤ → ℤ) (a b : Interval) (x y : ℤ) → IsSteady f a b x y → least (corners f a b) ≤ℤ f x y
corners_low f a b x y h = corner_low (f a.lo b.lo) (f a.lo b.hi) (f a.hi b.lo) (f a.hi b.hi) (f x y) (f a.lo y) (f a.hi y) h.low_across h.high_across h.along

pub corners_high : (f : ℤ → ℤ → ℤ) (a b : Interval) (x y : ℤ) → IsSteady f a b x y → f x y ≤ℤ greatest (corners f a b)
corners_high f a b x y h = corner_high (f a.lo b.lo) (f a.lo b.hi) (f a.hi b.lo) (f a.hi b.hi) (f x y) (f a.lo y) (f a.hi y) h.low_across h.high_across h.along

-- products
times_along : (l x h y : ℤ) → l ≤ℤ x → x ≤ℤ h → Between (l *ℤ y) (x *ℤ y) (h *ℤ y)
times_along l x h (pos k) p q = inl (le_times l x k p, le_times x h k q)
times_along l x h (negsuc k) p q =
    let m = le_times l x (suc k) p in
    let n = le_times x h (suc k) q in
    let el = times_neg_right l (pos (suc k)) in
    let ex = times_neg_right x (pos (suc k)) in
    let eh = times_neg_right h (pos (suc k)) in
    inr (omega (arith, ints), omega (arith, ints))

times_across : (x l y h : ℤ) → l ≤ℤ y → y ≤ℤ h → Between (x *ℤ l) (x *ℤ y) (x *ℤ h)
times_across x l y h p q =
    subst (λ t. Between t (x *ℤ y) (x *ℤ h)) (*ℤ_comm l x) (
    subst (λ t. Between (l *ℤ x) t (x *ℤ h)) (*ℤ_comm y x) (
    subst (λ t. Between (l *ℤ x) (y *ℤ x) t) (*ℤ_comm h x) (times_along l y h x p q)))

pub times_steady : (a b : Interval) (x y : ℤ) → a.lo ≤ℤ x → x ≤ℤ a.hi → b.lo ≤ℤ y → y ≤ℤ b.hi → IsSteady (λ m n. m *ℤ n) a b x y
times_steady a b x y p q r s = record {
  along = times_along a.lo x a.hi y p q;
  low_across = times_across a.lo b.lo y b.hi r s;
  high_across = times_across a.hi b.lo y b.hi r s;
}

-- a product whose factors two powers lengthen
product_longer : (m n : ℤ) (i j k : ℕ) → i + j ≡ k → (m *ℤ n) *ℤ ten_to k ≡ (m *ℤ ten_to i) *ℤ (n *ℤ ten_to j)
product_longer m n i j k e = sym (longer (m *ℤ n) i j k e) ∙ ap (λ t. t *ℤ ten_to j) (times_swap m n (ten_to i)) ∙ times_assoc (m *ℤ ten_to i) n (ten_to j)

-- a number between the ends is no greater than the greatest magnitude
pub most_holds : (a : Interval) (z : ℤ) → a.lo ≤ℤ z → z ≤ℤ a.hi → unsigned_abs z ≤ unsigned_abs (greatest_magnitude a)
most_holds a z p q = omega (arith, ints)

pub product_kept : (a b : Interval) (x y : ℤ) → IsWithinLimit (greatest_magnitude a *ℤ greatest_magnitude b) → a.lo ≤ℤ x → x ≤ℤ a.hi → b.lo ≤ℤ y → y ≤ℤ b.hi → IsWithinLimit (x *ℤ y)
product_kept a b x y kept p q r s =
    let left = most_holds a x p q in
    let right = most_holds b y r s in
    let bound = mul-le (unsigned_abs x) (unsigned_abs y) (unsigned_abs (greatest_magnitude a)) (unsigned_abs (greatest_magnitude b)) left right in
    let size = unsigned_abs-mul x y in
    let size' = unsigned_abs-mul (greatest_magnitude a) (greatest_magnitude b) in
    omega (arith, kept)

pub product_sound : (a b r : Interval) → product_row a b ≡ Ok r → ProductIsSound a b r
product_sound a b r e x y hx hy =
    let few = unless_ok (nat_lt most_places (a.s_hi + b.s_hi)) Scale (unless (is_beyond (greatest_magnitude a *ℤ greatest_magnitude b)) Wide (Ok (hull (corners (λ m n. m *ℤ n) a b) (a.s_lo + b.s_lo) (a.s_hi + b.s_hi)))) r e in
    let small = unless_ok (is_beyond (greatest_magnitude a *ℤ greatest_magnitude b)) Wide (Ok (hull (corners (λ m n. m *ℤ n) a b) (a.s_lo + b.s_lo) (a.s_hi + b.s_hi))) r few.1 in
    let kept = within_out (greatest_magnitude a *ℤ greatest_magnitude b) small.0 in
    let places : a.s_hi + b.s_hi ≤ most_places = let t = few.0 in grind (arith, nat_tests) in
    let u = numerator_at a.s_hi x in
    let v = numerator_at b.s_hi y in
    let lengthened : (numerator_of x *ℤ numerator_of y) *ℤ ten_to (a.s_hi + b.s_hi - (scale_of x + scale_of y)) ≡ u *ℤ v = product_longer (numerator_of x) (numerator_of y) (a.s_hi - scale_of x) (b.s_hi - scale_of y) _ (omega (arith, hx.greatest_scale, hy.greatest_scale)) in
    let steady = times_steady a b u v hx.low hx.high hy.low hy.high in
    let long : IsWithinLimit ((numerator_of x *ℤ numerator_of y) *ℤ ten_to (a.s_hi + b.s_hi - (scale_of x + scale_of y))) = rw lengthened (product_kept a b u v kept hx.low hx.high hy.low hy.high) in
    record {
      fits = record {
        result = subst IsWithinLimit (times_one (numerator_of x *ℤ numerator_of y)) (kept_shorter (numerator_of x *ℤ numerator_of y) 0 _ (omega arith) long);
        scale = omega (arith, hx.greatest_scale, hy.greatest_scale);
      };
      inside = λ z is. subst (λ s. Contains s z) (ok_is _ r small.1) (subst (Contains _) (sym is) (record {
        least_scale = omega (arith, hx.least_scale, hy.least_scale);
        greatest_scale = omega (arith, hx.greatest_scale, hy.greatest_scale);
        low = rw lengthened (corners_low (λ m n. m *ℤ n) a b u v steady);
        high = rw lengthened (corners_high (λ m n. m *ℤ n) a b u v steady);
      }));
    }

-- the products at the ends are within the limit
pub record EndsKept (a b : Interval) : Type 0 where
  pub low_low : IsWithinLimit (a.lo *ℤ b.lo)
  pub low_high : IsWithinLimit (a.lo *ℤ b.hi)
  pub high_low : IsWithinLimit (a.hi *ℤ b.lo)
  pub high_high : IsWithinLimit (a.hi *ℤ b.hi)

pub products_kept : (a b : Interval) → IsWithinLimit (greatest_magnitude a *ℤ greatest_magnitude b) → a.lo ≤ℤ a.hi → b.lo ≤ℤ b.hi → EndsKept a b
products_kept a b kept p q =
    let la = omega_le a.lo in
    let ha = omega_le a.hi in
    let lb = omega_le b.lo in
    let hb = omega_le b.hi in
    record {
      low_low = product_kept a b a.lo b.lo kept la p lb q;
      low_high = product_kept a b a.lo b.hi kept la p q hb;
      high_low = product_kept a b a.hi b.lo kept p ha lb q;
      high_high = product_kept a b a.hi b.hi kept p ha q hb;
    }
  where
    omega_le : (z : ℤ) → z ≤ℤ z
    omega_le z = omega (arith, ints)

pub all_four : (P : ℤ → Type 0) (p q r s : ℤ) → P p → P q → P r → P s → All P (p ∷ (q ∷ (r ∷ (s ∷ []))))
all_four P p q r s f g h k = All-cons P p (q ∷ (r ∷ (s ∷ []))) f (All-cons P q (r ∷ (s ∷ [])) g (All-cons P r (s ∷ []) h (All-cons P s [] k (All-nil P))))
