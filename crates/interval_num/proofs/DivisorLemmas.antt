-- Exact quotients by plain divisors.
use Rattle.std.proofs.Common.{◌≡◌, ◌≢◌, ℕ, zero, suc, ◌+◌, ◌-◌, ◌*◌, ◌^◌, ◌≤◌, ℤ, pos, negsuc, ◌*ℤ◌, ◌≤ℤ◌, neg_ℤ, unsigned_abs, int_div, int_rem, nat_lt, Bool, true, false, if◌then◌else◌, Ok, refl, sym, ap, ap₂, ◌∙◌, subst, arith}
use Rattle.std.specs.Ordering.{int_eq}
use Rattle.std.proofs.lemmas.Int.{ints, quot-rem, unsigned_abs-mul}
use Rattle.std.proofs.lemmas.Bool.Decides.{nat_tests}
use Rattle.std.proofs.Math.Nat.{mul-mod_left, pow-le-pow_right, le-mul_of_pos_right}
use Rattle.scaled_decimal.specs.laws.IntegerLemmas.{le_times, times_assoc, times_swap, times_cancel}
use Rattle.scaled_decimal.specs.Decimals.{Decimal, decimal, numerator_of, scale_of, numerator_at, ten_to}
use Rattle.scaled_decimal.specs.ExactQuotients.{Divides, IsPlainDivisor, HoldsQuotient, IsExactQuotient}
use Rattle.scaled_decimal.specs.WorkingNumbers.{IsDivisorPlaces, ExactQuotientFits}
use Rattle.scaled_decimal.specs.Limits.{IsWithinLimit, most_places}
use Rattle.interval_num.specs.declared.cause.RangeCause.TheVariants.{Scale}
use Rattle.interval_num.specs.Intervals.{Interval, interval, Contains}
use Rattle.interval_num.specs.Alignment.{within_limit}
use Rattle.interval_num.specs.PlainDivisors.{first_power, divisor_places, cofactor}
use Rattle.interval_num.specs.Rows.{exact_quotient_row}
use Rattle.interval_num.specs.Soundness.{ExactQuotientIsSound}
use Rattle.interval_num.proofs.NumberLemmas.{longer, ten_some, times_one, kept_shorter, kept_between}
use Rattle.interval_num.proofs.AlignmentLemmas.{unless_ok, kept_ok}

rem_from_divides : (d n : ℤ) → pos 1 ≤ℤ d → Divides d n → int_rem n d ≡ pos 0
rem_from_divides (negsuc d) n positive h = absurd (omega (arith, ints))
rem_from_divides (pos d) (pos m) positive (pos k, e) = let times : k * d ≡ m = omega (arith, ints) in rw (← times) (ap pos (mul-mod_left k d))
rem_from_divides (pos d) (pos m) positive (negsuc k, e) = absurd (omega (arith, ints))
rem_from_divides (pos d) (negsuc m) positive (pos k, e) = absurd (omega (arith, ints))
rem_from_divides (pos d) (negsuc m) positive (negsuc k, e) = let times : suc k * d ≡ suc m = omega (arith, ints) in rw (← times) (ap (λ r. neg_ℤ (pos r)) (mul-mod_left (suc k) d))

divides_from_rem : (d n : ℤ) → int_rem n d ≡ pos 0 → Divides d n
divides_from_rem d n e = (int_div n d, (let q = quot-rem n d in omega (arith, ints)))

zero_from_test : (z : ℤ) → int_eq z (pos 0) ≡ true → z ≡ pos 0
zero_from_test z e = grind (arith, ints, nat_tests)

some_from_test : (z : ℤ) → int_eq z (pos 0) ≡ false → z ≢ pos 0
some_from_test z e f = grind (arith, ints, nat_tests)

-- the search finds the least power
search_step : (d : ℤ) (k rest : ℕ) (t : Bool) → pos 1 ≤ℤ d → int_eq (int_rem (ten_to k) d) (pos 0) ≡ t → ((j : ℕ) → Divides d (ten_to j) → k ≤ j) → (((j : ℕ) → Divides d (ten_to j) → suc k ≤ j) → IsDivisorPlaces d rest) → IsDivisorPlaces d (if t then k else rest)
search_step d k rest true positive e least go = record { divides = divides_from_rem d (ten_to k) (zero_from_test _ e); least = least }
search_step d k rest false positive e least go =
    let not : Divides d (ten_to k) → ⊥ = λ f. some_from_test (int_rem (ten_to k) d) e (rem_from_divides d (ten_to k) positive f) in
    go (λ j f.
    let low = least j f in
    let same : k ≡ j → ⊥ = λ g. not (subst (λ i. Divides d (ten_to i)) (sym g) f) in
    omega arith)

first_is : (d : ℤ) (k tries : ℕ) → pos 1 ≤ℤ d → Divides d (ten_to (k + tries)) → ((j : ℕ) → Divides d (ten_to j) → k ≤ j) → IsDivisorPlaces d (first_power d k tries)
first_is d k zero positive h least = let e : k + zero ≡ k = omega arith in record { divides = subst (λ j. Divides d (ten_to j)) e h; least = least }
first_is d k (suc tries) positive h least =
    let e : k + suc tries ≡ suc k + tries = omega arith in
    search_step d k (first_power d (suc k) tries) (int_eq (int_rem (ten_to k) d) (pos 0)) positive refl least (λ more. first_is d (suc k) tries positive (subst (λ j. Divides d (ten_to j)) e h) more)

quotient_above : (n d : ℤ) → pos 0 ≤ℤ n → pos 1 ≤ℤ d → pos 0 ≤ℤ int_div n d
quotient_above (pos n) (pos d) p q = omega (arith, ints)
quotient_above (negsuc n) d p q = absurd (omega (arith, ints))
quotient_above n (negsuc d) p q = absurd (omega (arith, ints))

cancel_both : (a b d : ℤ) (k : ℕ) → pos 1 ≤ℤ d → (a *ℤ d) *ℤ ten_to k ≡ (b *ℤ d) *ℤ ten_to k → a ≡ b
cancel_both a b (pos d) k positive e = times_cancel a b d (omega (arith, ints)) (times_cancel (a *ℤ pos d) (b *ℤ pos d) (10 ^ k) (ten_some k) e)
cancel_both a b (negsuc d) k positive e = absurd (omega (arith, ints))

cancel_one : (a b d : ℤ) → pos 1 ≤ℤ d → a *ℤ d ≡ b *ℤ d → a ≡ b
cancel_one a b (pos d) positive e = times_cancel a b d (omega (arith, ints)) e
cancel_one a b (negsuc d) positive e = absurd (omega (arith, ints))

module _ (d : ℤ) (plain : IsPlainDivisor d) where
  pub places_are : IsDivisorPlaces d (divisor_places d)
  unfolding divisor_places
  places_are = let e : most_places ≡ 0 + most_places = omega arith in first_is d 0 most_places plain.positive (subst (λ j. Divides d (ten_to j)) e plain.divides) (λ j f. omega arith)

  pub cofactor_is : cofactor d *ℤ d ≡ ten_to (divisor_places d)
  unfolding cofactor
  cofactor_is =
      let rest = rem_from_divides d (ten_to (divisor_places d)) plain.positive places_are.divides in
      let q = quot-rem (ten_to (divisor_places d)) d in
      omega (arith, ints)

  pub cofactor_above : pos 0 ≤ℤ cofactor d
  unfolding cofactor
  cofactor_above = quotient_above (ten_to (divisor_places d)) d (omega (arith, ints)) plain.positive

  pub one_place : (k : ℕ) → IsDivisorPlaces d k → k ≡ divisor_places d
  one_place k h = let p = h.least (divisor_places d) places_are.divides in let q = places_are.least k h.divides in omega arith

  pub one_cofactor : (k : ℕ) (c : ℤ) → IsDivisorPlaces d k → c *ℤ d ≡ ten_to k → c ≡ cofactor d
  one_cofactor k c h e = cancel_one c (cofactor d) d plain.positive (e ∙ ap ten_to (one_place k h) ∙ sym cofactor_is)

  -- the numerator times the cofactor holds the quotient
  product_holds : (x : Decimal) → HoldsQuotient x d (decimal (numerator_of x *ℤ cofactor d) (scale_of x + divisor_places d))
  product_holds x =
      ap (λ t. t *ℤ ten_to (scale_of x)) (times_assoc (numerator_of x) (cofactor d) d ∙ ap (λ t. numerator_of x *ℤ t) cofactor_is)
      ∙ longer (numerator_of x) (divisor_places d) (scale_of x) _ (omega arith)

  -- an exact quotient has no more places
  few_places : (x z : Decimal) → IsExactQuotient x d z → scale_of z ≤ scale_of x + divisor_places d
  few_places x z h = h.least (decimal (numerator_of x *ℤ cofactor d) (scale_of x + divisor_places d)) (omega arith) (product_holds x)

  quotient_longer : (x z : Decimal) → IsExactQuotient x d z → numerator_of z *ℤ ten_to (scale_of x + divisor_places d - scale_of z) ≡ numerator_of x *ℤ cofactor d
  quotient_longer x z h =
      let m = numerator_of z in
      let n = numerator_of x in
      let i = scale_of x in
      let t = scale_of z in
      let k = divisor_places d in
      let few = few_places x z h in
      let left : ((m *ℤ ten_to (i + k - t)) *ℤ d) *ℤ ten_to t ≡ n *ℤ ten_to (k + t) =
      ap (λ v. v *ℤ ten_to t) (times_swap m (ten_to (i + k - t)) d)
      ∙ longer (m *ℤ d) (i + k - t) t (i + k) (omega arith)
      ∙ sym (longer (m *ℤ d) i k (i + k) refl)
      ∙ ap (λ v. v *ℤ ten_to k) h.exact
      ∙ longer n t k (k + t) (omega arith) in
      let right : ((n *ℤ cofactor d) *ℤ d) *ℤ ten_to t ≡ n *ℤ ten_to (k + t) =
      ap (λ v. v *ℤ ten_to t) (times_assoc n (cofactor d) d ∙ ap (λ v. n *ℤ v) cofactor_is)
      ∙ longer n k t (k + t) refl in
      cancel_both (m *ℤ ten_to (i + k - t)) (n *ℤ cofactor d) d t plain.positive (left ∙ sym right)

pub le_factors : (u v c : ℤ) → pos 0 ≤ℤ c → u ≤ℤ v → (u *ℤ c) ≤ℤ (v *ℤ c)
le_factors u v (pos c) p q = le_times u v c q
le_factors u v (negsuc c) p q = absurd (omega (arith, ints))

pub exact_quotient_sound : (d : ℤ) (a r : Interval) → IsPlainDivisor d → exact_quotient_row d a ≡ Ok r → ExactQuotientIsSound d a r
exact_quotient_sound d a r plain e x hx =
    let k = divisor_places d in
    let c = cofactor d in
    let n = numerator_of x in
    let i = scale_of x in
    let wide = interval (a.lo *ℤ c) (a.hi *ℤ c) a.s_lo (a.s_hi + k) in
    let few = unless_ok (nat_lt most_places (a.s_hi + k)) Scale (within_limit wide) r e in
    let ends = kept_ok wide r few.1 in
    let places : a.s_hi + k ≤ most_places = let t = few.0 in grind (arith, nat_tests) in
    let u = numerator_at a.s_hi x in
    let low : (a.lo *ℤ c) ≤ℤ (u *ℤ c) = le_factors a.lo u c (cofactor_above d plain) hx.low in
    let high : (u *ℤ c) ≤ℤ (a.hi *ℤ c) = le_factors u a.hi c (cofactor_above d plain) hx.high in
    let kept_long : IsWithinLimit (u *ℤ c) = kept_between (a.lo *ℤ c) (u *ℤ c) (a.hi *ℤ c) low high ends.0.low ends.0.high in
    let swapped : u *ℤ c ≡ (n *ℤ c) *ℤ ten_to (a.s_hi - i) = times_swap n (ten_to (a.s_hi - i)) c in
    let kept_product : IsWithinLimit (n *ℤ c) = subst IsWithinLimit (times_one (n *ℤ c)) (kept_shorter (n *ℤ c) 0 (a.s_hi - i) (omega arith) (subst IsWithinLimit swapped kept_long)) in
    record {
      fits = record {
        scaled = λ k' c' places' times. subst (λ f. IsWithinLimit (n *ℤ f)) (sym (one_cofactor d plain k' c' places' times)) kept_product;
        scale = λ k' places'. (let same = one_place d plain k' places' in omega (arith, hx.greatest_scale));
        result = λ z exact.
            subst IsWithinLimit (times_one (numerator_of z)) (kept_shorter (numerator_of z) 0 (i + k - scale_of z) (omega arith) (subst IsWithinLimit (sym (quotient_longer d plain x z exact)) kept_product));
      };
      inside = λ z exact.
          let fewer = few_places d plain x z exact in
          let at : numerator_at (a.s_hi + k) z ≡ u *ℤ c =
          sym (longer (numerator_of z) (i + k - scale_of z) (a.s_hi - i) (a.s_hi + k - scale_of z) (omega (arith, hx.greatest_scale)))
          ∙ ap (λ v. v *ℤ ten_to (a.s_hi - i)) (quotient_longer d plain x z exact)
          ∙ sym swapped in
          subst (λ t. Contains t z) ends.1 (record {
            least_scale = omega (arith, hx.least_scale, exact.scale);
            greatest_scale = omega (arith, hx.greatest_scale);
            low = rw at low;
            high = rw at high;
          });
    }

-- one over a plain divisor
cofactor_small : (d : ℤ) (plain : IsPlainDivisor d) → unsigned_abs (cofactor d) ≤ 10 ^ most_places
cofactor_small d plain =
    let size = unsigned_abs-mul (cofactor d) d in
    let same = ap unsigned_abs (cofactor_is d plain) in
    let few = (places_are d plain).least most_places plain.divides in
    let power : 10 ^ divisor_places d ≤ 10 ^ most_places = pow-le-pow_right {n = 10} (omega arith) few in
    let positive = plain.positive in
    let grown : unsigned_abs (cofactor d) ≤ unsigned_abs (cofactor d) * unsigned_abs d = le-mul_of_pos_right (unsigned_abs (cofactor d)) (omega (arith, ints)) in
    omega arith

pub cofactor_kept : (d : ℤ) → IsPlainDivisor d → IsWithinLimit (cofactor d)
cofactor_kept d plain = let small = cofactor_small d plain in omega arith

pub few_divisor_places : (d : ℤ) → IsPlainDivisor d → divisor_places d ≤ most_places
few_divisor_places d plain = (places_are d plain).least most_places plain.divides

one_times : (n : ℤ) → pos 1 *ℤ n ≡ n
one_times n = omega (arith, ints)

pub reciprocal_fits : (d : ℤ) → IsPlainDivisor d → ExactQuotientFits (decimal (pos 1) 0) d
reciprocal_fits d plain = record {
  scaled = λ k c places times. subst IsWithinLimit (sym (one_times c ∙ one_cofactor d plain k c places times)) (cofactor_kept d plain);
  scale = λ k places. (let same = one_place d plain k places in let few = few_divisor_places d plain in omega arith);
  result = λ z exact.
      let longer_is = quotient_longer d plain (decimal (pos 1) 0) z exact ∙ one_times (cofactor d) in
      subst IsWithinLimit (times_one (numerator_of z)) (kept_shorter (numerator_of z) 0 (0 + divisor_places d - scale_of z) (omega arith) (subst IsWithinLimit (sym longer_is) (cofactor_kept d plain)));
}

pub reciprocal_is : (d : ℤ) (z : Decimal) → IsPlainDivisor d → IsExactQuotient (decimal (pos 1) 0) d z → z ≡ decimal (cofactor d) (divisor_places d)
reciprocal_is d z plain exact =
    let few = few_places d plain (decimal (pos 1) 0) z exact in
    let divides : Divides d (ten_to (scale_of z)) = (numerator_of z, sym (times_one (numerator_of z *ℤ d)) ∙ exact.exact ∙ one_times (ten_to (scale_of z))) in
    let more = (places_are d plain).least (scale_of z) divides in
    let same : scale_of z ≡ divisor_places d = omega arith in
    let gone : 0 + divisor_places d - scale_of z ≡ 0 = omega arith in
    let number : numerator_of z ≡ cofactor d = sym (times_one (numerator_of z)) ∙ ap (λ k. numerator_of z *ℤ ten_to k) (sym gone) ∙ quotient_longer d plain (decimal (pos 1) 0) z exact ∙ one_times (cofactor d) in
    ap₂ decimal number same
