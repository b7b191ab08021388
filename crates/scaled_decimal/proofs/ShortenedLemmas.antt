-- A decimal without the zeros that end it, as a function.
use Rattle.std.proofs.Common.{◌≡◌, ℕ, zero, suc, ◌+◌, ◌-◌, ◌^◌, ◌<◌, ◌≤◌, nat_lt, Bool, true, false, if◌then◌else◌, ℤ, pos, negsuc, ◌*ℤ◌, int_div, int_rem, refl, sym, ap, ap₂, ◌∙◌, subst, inl, inr, arith}
use Rattle.std.specs.Ordering.{int_eq}
use Rattle.std.proofs.lemmas.Int.{ints, quot-rem}
use Rattle.std.proofs.lemmas.Bool.Decides.{nat_tests}
use Rattle.std.proofs.lemmas.Bool.{cases_lt}
use Rattle.scaled_decimal.specs.Decimals.{Decimal, decimal, numerator_of, scale_of, ten_to}
use Rattle.scaled_decimal.specs.Shortening.{IsShortened, HasValueOf, IsShortest}
use Rattle.scaled_decimal.specs.ExactQuotients.{Divides}
use Rattle.scaled_decimal.specs.ShortenedDecimals.{without_zeros, shortened}
use Rattle.scaled_decimal.specs.laws.IntegerLemmas.{times_cancel}
use Rattle.scaled_decimal.proofs.ExactLemmas.{powers, rem_from_divides, divides_from_rem, zero_at_end}
use Rattle.scaled_decimal.proofs.PowerLemmas.{ten_some}

zero_from_test : (z : ℤ) → int_eq z (pos 0) ≡ true → z ≡ pos 0
zero_from_test (pos n) e = ap pos (grind (arith, nat_tests))
zero_from_test (negsuc n) e = absurd (cc)

test_from_zero : (z : ℤ) → z ≡ pos 0 → int_eq z (pos 0) ≡ true
test_from_zero z e = rw e refl

apart : true ≡ false → ⊥
apart e = cc

pub without_zeros_is : (least more : ℕ) (n : ℤ) → IsShortened (decimal n (least + more)) least (without_zeros least more n)
without_zeros_is least zero n =
    let none : least + 0 - least ≡ 0 = omega arith in
    record { low = omega arith; high = omega arith; same = rw none (omega (arith, ints)); short = λ h. refl }
without_zeros_is least (suc more) n = by_test (int_eq (int_rem n (pos 10)) (pos 0)) (without_zeros_is least more (int_div n (pos 10))) refl
  where
    by_test : (t : Bool) → IsShortened (decimal (int_div n (pos 10)) (least + more)) least (without_zeros least more (int_div n (pos 10))) → int_eq (int_rem n (pos 10)) (pos 0) ≡ t → IsShortened (decimal n (least + suc more)) least (if t then without_zeros least more (int_div n (pos 10)) else decimal n (least + suc more))
    by_test true h e =
        let r = without_zeros least more (int_div n (pos 10)) in
        let rest = zero_from_test (int_rem n (pos 10)) e in
        let q = quot-rem n (pos 10) in
        let tenth : n ≡ int_div n (pos 10) *ℤ ten_to 1 = omega (arith, ints) in
        record {
          low = h.low;
          high = omega (arith, h.high);
          same = tenth ∙ ap (λ x. x *ℤ ten_to 1) h.same ∙ powers (numerator_of r) (least + more - scale_of r) 1 (least + suc more - scale_of r) (omega (arith, h.high));
          short = h.short;
        }
    by_test false ih e =
        let none : least + suc more - (least + suc more) ≡ 0 = omega arith in
        record {
          low = omega arith;
          high = omega arith;
          same = rw none (omega (arith, ints));
          short = λ h. absurd (apart (sym (test_from_zero (int_rem n (pos 10)) (rem_from_divides (pos 10) n (omega (arith, ints)) h)) ∙ e));
        }

-- the same value without the zeros that end it
pub shortened_is : (least : ℕ) (a : Decimal) → least ≤ scale_of a → IsShortened a least (shortened least a)
shortened_is least a h =
    let whole : least + (scale_of a - least) ≡ scale_of a = omega arith in
    let enough : nat_lt (scale_of a) least ≡ false = grind (arith, nat_tests) in
    rw enough (subst (λ s. IsShortened (decimal (numerator_of a) s) least (without_zeros least (scale_of a - least) (numerator_of a))) whole (without_zeros_is least (scale_of a - least) (numerator_of a)))

-- ---- a step of the code

one_less : (least k : ℕ) (n : ℤ) → Divides (pos 10) n → without_zeros least (suc k) n ≡ without_zeros least k (int_div n (pos 10))
one_less least k n h = rw (test_from_zero (int_rem n (pos 10)) (rem_from_divides (pos 10) n (omega (arith, ints)) h)) refl

pub fewer : (least s : ℕ) (n : ℤ) → least < s → Divides (pos 10) n → shortened least (decimal n s) ≡ shortened least (decimal (int_div n (pos 10)) (s - 1))
fewer least s n some h =
    let places : s - least ≡ suc (s - 1 - least) = omega arith in
    let enough : nat_lt s least ≡ false = grind (arith, nat_tests) in
    let still : nat_lt (s - 1) least ≡ false = grind (arith, nat_tests) in
    rw (enough, still, places) (one_less least (s - 1 - least) n h)

-- no zero may go
last : (least k : ℕ) (n : ℤ) → (least < least + k → Divides (pos 10) n → ⊥) → without_zeros least k n ≡ decimal n (least + k)
last least zero n none = ap (λ s. decimal n s) (omega arith)
last least (suc k) n none = by_test (int_eq (int_rem n (pos 10)) (pos 0)) refl
  where
    by_test : (t : Bool) → int_eq (int_rem n (pos 10)) (pos 0) ≡ t → without_zeros least (suc k) n ≡ decimal n (least + suc k)
    by_test true e = absurd (none (omega arith) (divides_from_rem (pos 10) n (zero_from_test (int_rem n (pos 10)) e)))
    by_test false e = rw e refl

pub stays : (least s : ℕ) (n : ℤ) → (least < s → Divides (pos 10) n → ⊥) → shortened least (decimal n s) ≡ decimal n s
stays least s n none = by_test (nat_lt s least) refl
  where
    by_test : (t : Bool) → nat_lt s least ≡ t → shortened least (decimal n s) ≡ decimal n s
    by_test true e = rw e refl
    by_test false e =
        let whole : least + (s - least) ≡ s = grind (arith, nat_tests) in
        rw e (last least (s - least) n (λ more. none (omega arith)) ∙ ap (λ k. decimal n k) whole)

-- ---- a decimal is shortened in one way

-- what ends with no zero has no more places than another of the same value
no_longer : (least : ℕ) (a d e : Decimal) → IsShortened a least d → IsShortened a least e → scale_of d < scale_of e → ⊥
no_longer least a d e f g less =
    let m = numerator_of d in
    let more = scale_of e - scale_of d in
    let rest = scale_of a - scale_of e in
    let same : m *ℤ ten_to more ≡ numerator_of e =
    times_cancel (m *ℤ ten_to more) (numerator_of e) (10 ^ rest) (ten_some rest) (
    powers m more rest (scale_of a - scale_of d) (omega (arith, g.high)) ∙ sym f.same ∙ g.same) in
    let one = g.short ((m *ℤ ten_to (more - 1), powers m (more - 1) 1 more (omega arith) ∙ same)) in
    omega (arith, one, f.low)

pub shortened_only : (least : ℕ) (a d : Decimal) → IsShortened a least d → d ≡ shortened least a
shortened_only least a d f =
    let e = shortened least a in
    let g = shortened_is least a (omega (arith, f.low, f.high)) in
    let scales : scale_of d ≡ scale_of e = elim (cases_lt (scale_of d) (scale_of e)) [
      | inl less ↦ absurd (no_longer least a d e f g less)
      | inr le ↦ elim (cases_lt (scale_of e) (scale_of d)) [
        | inl less ↦ absurd (no_longer least a e d g f less)
        | inr ge ↦ omega arith
      ]
    ] in
    let rest = scale_of a - scale_of e in
    let numbers : numerator_of d ≡ numerator_of e =
    times_cancel (numerator_of d) (numerator_of e) (10 ^ rest) (ten_some rest) (
    ap (λ s. numerator_of d *ℤ ten_to (scale_of a - s)) (sym scales) ∙ sym f.same ∙ g.same) in
    ap₂ decimal numbers scales

-- ---- at the least scale

times_one : (n m : ℤ) (s t : ℕ) → m *ℤ ten_to s ≡ n *ℤ ten_to t → (m *ℤ pos 1) *ℤ ten_to s ≡ n *ℤ ten_to t
times_one n m s t e = let same : m *ℤ pos 1 ≡ m = omega (arith, ints) in rw same e

-- what ends with no zero has the fewest places
fewest : (least : ℕ) (a d : Decimal) → IsShortened a least d → HasValueOf a d → (q : Decimal) → least ≤ scale_of q → HasValueOf a q → scale_of d ≤ scale_of q
fewest least a d f same q low other = elim (cases_lt (scale_of q) (scale_of d)) [
  | inl less ↦ absurd (
      let end = f.short (zero_at_end (numerator_of a) (numerator_of d) (numerator_of q) 1 (scale_of a) (scale_of d) (scale_of q) (omega arith) less
      (times_one (numerator_of a) (numerator_of d) (scale_of a) (scale_of d) same)
      (times_one (numerator_of a) (numerator_of q) (scale_of a) (scale_of q) other)) in
      omega arith)
  | inr le ↦ le
]

shortest_of : (least : ℕ) (a d : Decimal) → IsShortened a least d → IsShortest a least d
shortest_of least a d f =
    let same : HasValueOf a d =
    sym (ap (λ n. n *ℤ ten_to (scale_of d)) f.same ∙ powers (numerator_of d) (scale_of a - scale_of d) (scale_of d) (scale_of a) (omega (arith, f.high))) in
    record { scale = f.low; same = same; fewest = fewest least a d f same }

shortest_once : (least : ℕ) (a d e : Decimal) → IsShortest a least d → IsShortest a least e → d ≡ e
shortest_once least a d e f g =
    let below = f.fewest e g.scale g.same in
    let above = g.fewest d f.scale f.same in
    let scales : scale_of d ≡ scale_of e = omega arith in
    let numbers : numerator_of d ≡ numerator_of e =
    times_cancel (numerator_of d) (numerator_of e) (10 ^ scale_of a) (ten_some (scale_of a)) (
    f.same ∙ ap (λ s. numerator_of a *ℤ ten_to s) scales ∙ sym g.same) in
    ap₂ decimal numbers scales

-- the function gives the shortest
pub shortest_is : (least : ℕ) (a : Decimal) → least ≤ scale_of a → IsShortest a least (shortened least a)
shortest_is least a h = shortest_of least a (shortened least a) (shortened_is least a h)

pub shortest_only : (least : ℕ) (a q : Decimal) → least ≤ scale_of a → IsShortest a least q → q ≡ shortened least a
shortest_only least a q h f = shortest_once least a q (shortened least a) f (shortest_is least a h)

pub kept_if_short : (least : ℕ) (a : Decimal) → scale_of a < least → shortened least a ≡ a
kept_if_short least a h = let few : nat_lt (scale_of a) least ≡ true = grind (arith, nat_tests) in rw few refl
