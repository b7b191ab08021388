-- Sums of bounded amounts are within the limits of decimals.
use Rattle.std.proofs.Common.{◌≡◌, ℕ, zero, suc, ◌+◌, ◌-◌, ◌*◌, ◌^◌, ◌<◌, ◌≤◌, ℤ, pos, negsuc, ◌+ℤ◌, ◌*ℤ◌, unsigned_abs, Bool, true, false, List, [], ◌∷◌, length, get_or, drop, add-one, Option, Some, None, sym, ap, ◌∙◌, arith, subst, cond}
use Rattle.std.specs.Prelude.{option_map, option_and_then}
use Rattle.std.specs.List.{AllByRecursion, find, cons_option}
use Rattle.std.specs.Str.{bytes_eq}
use Rattle.std.proofs.lemmas.Int.{ints}
use Rattle.std.proofs.Math.Seq.{drop-cons}
use borrow.Author.Differences.{sum_is_lem}
use Rattle.scaled_decimal.specs.Decimals.{Decimal, numerator_at, numerator_of, scale_of, greater_scale, sum, ten_to}
use Rattle.scaled_decimal.specs.WorkingNumbers.{SumFits}
use Rattle.scaled_decimal.proofs.Laws.{times_assoc, ten_add, ten_some}
use Rattle.limits_file.specs.Limits.{IsWithinBound}
use Rattle.payroll_records.specs.declared.values.NamedValue.{NamedValue}
use Rattle.carry_bindings.specs.Carrying.{amount_of, amounts, named}
use Rattle.carry_bindings.specs.Conditions.{AreBounded}
use Rattle.carry_bindings.specs.declared.carried.Earlier.{Earlier}

abs_times : (x : ℤ) (k : ℕ) → unsigned_abs (x *ℤ pos k) ≡ unsigned_abs x * k
abs_times (pos m) k = omega (arith, ints)
abs_times (negsuc m) k = omega (arith, ints)

grows : (m k : ℕ) → 0 < k → m ≤ m * k
grows m zero some = absurd (omega arith)
grows m (suc k) some = grind arith

pub abs_grows : (x : ℤ) (k : ℕ) → unsigned_abs x ≤ unsigned_abs (x *ℤ ten_to k)
abs_grows x k = rw (abs_times x (10 ^ k)) (grows (unsigned_abs x) (10 ^ k) (ten_some k))

-- the numerator at more places
pub longer : (s m : ℕ) (d : Decimal) → scale_of d ≤ s → s ≤ m → numerator_at s d *ℤ ten_to (m - s) ≡ numerator_at m d
longer s m d l k =
    times_assoc (numerator_of d) (ten_to (s - scale_of d)) (ten_to (m - s))
    ∙ ap (λ x. numerator_of d *ℤ x) (ten_add (s - scale_of d) (m - s) (m - scale_of d) (omega arith))

at_fewer : (s m n : ℕ) (d : Decimal) → scale_of d ≤ s → s ≤ m → unsigned_abs (numerator_at m d) ≤ n → unsigned_abs (numerator_at s d) ≤ n
at_fewer s m n d l k h =
    let grown = abs_grows (numerator_at s d) (m - s) in
    let same = ap unsigned_abs (longer s m d l k) in
    omega arith

add_times : (x y : ℤ) (k : ℕ) → (x +ℤ y) *ℤ pos k ≡ (x *ℤ pos k) +ℤ (y *ℤ pos k)
add_times x y k = let m = ap (λ t. t * k) (sum_is_lem x y) in omega (arith, ints)

abs_add : (x y : ℤ) → unsigned_abs (x +ℤ y) ≤ unsigned_abs x + unsigned_abs y
abs_add x y = omega (arith, ints)

-- a sum of at most so many bounded amounts
pub record IsPartial (count : ℕ) (d : Decimal) : Type 0 where
  pub places : scale_of d ≤ 12
  pub bounded : unsigned_abs (numerator_at 12 d) ≤ count * 10 ^ 32

-- one more bounded amount, where there are fewer than 100,000: so many, each of at most 10^32, are within 10^37
module _ (count : ℕ) (few : count < 100000) (a b : Decimal) (h : IsPartial count a) (k : IsWithinBound b) where
  top : greater_scale a b ≤ 12
  top = omega (arith, h.places, k.places)

  left : unsigned_abs (numerator_at (greater_scale a b) a) ≤ count * 10 ^ 32
  left = at_fewer (greater_scale a b) 12 (count * 10 ^ 32) a (omega arith) top h.bounded

  right : unsigned_abs (numerator_at (greater_scale a b) b) ≤ 10 ^ 32
  right = at_fewer (greater_scale a b) 12 (10 ^ 32) b (omega arith) top k.small

  pub sum_fits : SumFits a b
  sum_fits =
      let l = left in
      let r = right in
      let both = abs_add (numerator_at (greater_scale a b) a) (numerator_at (greater_scale a b) b) in
      record { left = omega arith; right = omega arith; result = omega arith }

  pub sum_partial : IsPartial (count + 1) (sum a b)
  sum_partial =
      let t = top in
      let apart = add_times (numerator_at (greater_scale a b) a) (numerator_at (greater_scale a b) b) (10 ^ (12 - greater_scale a b)) in
      let la = longer (greater_scale a b) 12 a (omega arith) t in
      let lb = longer (greater_scale a b) 12 b (omega arith) t in
      let both = abs_add (numerator_at 12 a) (numerator_at 12 b) in
      let x = h.bounded in
      let y = k.small in
      record { places = t; bounded = rw (apart, la, lb) (omega arith) }

-- an output of a bounded run is bounded
named_bounded : (name : List ℕ) (outputs : List NamedValue) (d : Decimal) → AllByRecursion (λ v. IsWithinBound v.value) outputs → named name outputs ≡ Some d → IsWithinBound d
named_bounded name [] d h e = absurd (cc e)
named_bounded name (v ∷ vs) d h e = by (bytes_eq v.name name) e (named_bounded name vs d h.1)
  where
    by : (b : Bool) → option_map (λ (v : NamedValue). v.value) (cond b (Some v) (find (λ (v : NamedValue). bytes_eq v.name name) vs)) ≡ Some d → (named name vs ≡ Some d → IsWithinBound d) → IsWithinBound d
    by true e more = let same : v.value ≡ d = cc in subst IsWithinBound same h.0
    by false e more = more e

pub amount_by : (name : List ℕ) (o : Option (List NamedValue)) (d : Decimal) → AreBounded o → option_and_then (named name) o ≡ Some d → IsWithinBound d
amount_by name None d h e = absurd (cc e)
amount_by name (Some outputs) d h e = named_bounded name outputs d h e

run_at : (es : List Earlier) (i : ℕ) (e : Earlier) → AllByRecursion (λ e. AreBounded e.outputs) es → i < length es → e ≡ get_or es i e → AreBounded e.outputs
run_at [] i e h l is = absurd (omega arith)
run_at (x ∷ xs) zero e h l is = subst (λ (y : Earlier). AreBounded y.outputs) (sym is) h.0
run_at (x ∷ xs) (suc i) e h l is = run_at xs i e h.1 (omega arith) is

pub amount_bounded : (name : List ℕ) (es : List Earlier) (i : ℕ) (e : Earlier) (d : Decimal) → AllByRecursion (λ e. AreBounded e.outputs) es → i < length es → e ≡ get_or es i e →
    amount_of name e ≡ Some d → IsWithinBound d
amount_bounded name es i e d h l is a = amount_by name e.outputs d (run_at es i e h l is) a

pub partial_more : (count : ℕ) (d : Decimal) → IsPartial count d → IsPartial (count + 1) d
partial_more count d h = record { places = h.places; bounded = omega (arith, h.bounded) }

-- the amounts from a run on
pub amounts_from : (name : List ℕ) (es : List Earlier) (i : ℕ) (e : Earlier) → i < length es → e ≡ get_or es i e →
    amounts name (drop i es) ≡ cons_option (amount_of name e) (amounts name (drop (i + 1) es))
amounts_from name es i e l is =
    rw add-one (ap (amounts name) (drop-cons es i e l) ∙ ap (λ x. cons_option (amount_of name x) (amounts name (drop (suc i) es))) (sym is))
