-- A range that is refined may be refined again.
use Rattle.std.proofs.Common.{◌≡◌, ℕ, zero, suc, set, ◌-◌, ◌^◌, Bool, true, false, ℤ, pos, ◌+ℤ◌, ◌-ℤ◌, ◌*ℤ◌, ◌≤ℤ◌, List, [], ◌∷◌, Option, Some, None, refl, sym, ap, ◌∙◌, subst, arith, max}
use Rattle.std.specs.Prelude.{if◌then◌else◌, int_le, slice_get, slice_set}
use Rattle.std.specs.Bool.{OnTrue}
use Rattle.std.specs.Int.{int_min, int_max}
use Rattle.std.specs.Ordering.{int_eq}
use Rattle.std.specs.Option.{option_map, option_and_then}
use Rattle.std.proofs.Math.Nat.{max_comm}
use Rattle.std.proofs.lemmas.Int.{ints, clamps}
use Rattle.scaled_decimal.specs.declared.rounding.Mode.TheVariants.{Floor, Ceiling}
use Rattle.scaled_decimal.specs.Decimals.{ten_to, decimal, numerator_of}
use Rattle.scaled_decimal.specs.RoundedDecimals.{rescaled}
use Rattle.scaled_decimal.specs.Limits.{IsWithinLimit}
use Rattle.scaled_decimal.specs.laws.IntegerLemmas.{le_times}
use Rattle.interval_num.specs.declared.sign_set.SignSet.{SignSet}
use Rattle.interval_num.specs.Intervals.{Interval, interval, IsWhole, HasKeptEnds}
use Rattle.interval_num.specs.Alignment.{at_scale, greater_scale}
use Rattle.interval_num.specs.Refinement.{refined, low_end, high_end, is_apart, without_end, gap}
use Rattle.interval_walk.specs.Branches.{exchanged}
use Rattle.interval_analysis.specs.declared.comparisons.Against.{Against}
use Rattle.interval_analysis.specs.declared.comparisons.Sides.{Sides}
use Rattle.interval_analysis.specs.private.ComparisonViews.{against, narrowed, CanCompare, CanNarrow, CanNarrowAt, CanRefine}

-- an interval inside another, with its scales
pub record IsPart (v a : Interval) : Type 0 where
  pub low : a.lo ≤ℤ v.lo
  pub order : v.lo ≤ℤ v.hi
  pub high : v.hi ≤ℤ a.hi
  pub least : v.s_lo ≡ a.s_lo
  pub greatest : v.s_hi ≡ a.s_hi

-- ---- what is left is a part

low_of : (b : Bool) (l m : ℤ) → l ≤ℤ (if b then l else int_max l m)
low_of true l m = omega (arith, ints)
low_of false l m = omega (arith, ints, clamps)

high_of : (b : Bool) (h m : ℤ) → (if b then h else int_min h m) ≤ℤ h
high_of true h m = omega (arith, ints)
high_of false h m = omega (arith, ints, clamps)

past_of : (b : Bool) (l : ℤ) → l ≤ℤ (if b then l +ℤ pos 1 else l)
past_of true l = omega (arith, ints)
past_of false l = omega (arith, ints)

short_of_it : (b : Bool) (h : ℤ) → (if b then h -ℤ pos 1 else h) ≤ℤ h
short_of_it true h = omega (arith, ints)
short_of_it false h = omega (arith, ints)

-- an interval within another's ends and with its scales, which may be empty
record IsWithin (q v : Interval) : Type 0 where
  low : v.lo ≤ℤ q.lo
  high : q.hi ≤ℤ v.hi
  least : q.s_lo ≡ v.s_lo
  greatest : q.s_hi ≡ v.s_hi

cut_within : (v e : Interval) (s : SignSet) (w : Bool) → IsWithin (interval (low_end v e s w) (high_end v e s w) v.s_lo v.s_hi) v
cut_within v e s w = record {
  low = low_of s.minus v.lo (numerator_of (rescaled Ceiling v.s_hi (decimal e.lo e.s_hi)) +ℤ gap s w);
  high = high_of s.plus v.hi (numerator_of (rescaled Floor v.s_hi (decimal e.hi e.s_hi)) -ℤ gap s w);
  least = refl;
  greatest = refl;
}

moved_within : (n : ℤ) (q v : Interval) → IsWithin q v → IsWithin (without_end n q) v
moved_within n q v h =
    let low = past_of (int_eq q.lo n) q.lo in
    let high = short_of_it (int_eq q.hi n) q.hi in
    record { low = omega (arith, ints, low, h.low); high = omega (arith, ints, high, h.high); least = h.least; greatest = h.greatest }

either_within : (b : Bool) (n : ℤ) (q v : Interval) → IsWithin q v → IsWithin (if b then without_end n q else q) v
either_within true n q v h = moved_within n q v h
either_within false n q v h = h

kept_part : (q v r : Interval) (b : Bool) → IsWithin q v → int_le q.lo q.hi ≡ b → (if b then Some q else None) ≡ Some r → IsPart r v
kept_part q v r true h e is =
    let same : q ≡ r = cc in
    let order : q.lo ≤ℤ q.hi = grind (arith, ints) in
    subst (λ r. IsPart r v) same (record { low = h.low; order = order; high = h.high; least = h.least; greatest = h.greatest })
kept_part q v r false h e is = absurd (cc)

pub refined_part : (v e r : Interval) (s : SignSet) (w : Bool) → refined v e s w ≡ Some r → IsPart r v
refined_part v e r s w is =
    let q = interval (low_end v e s w) (high_end v e s w) v.s_lo v.s_hi in
    let p = if is_apart e s w then without_end e.lo q else q in
    kept_part p v r (int_le p.lo p.hi) (either_within (is_apart e s w) e.lo q v (cut_within v e s w)) refl is

-- ---- a part may be refined by what the whole may be refined by

kept_between : (l v h : ℤ) (k : ℕ) → l ≤ℤ v → v ≤ℤ h → IsWithinLimit (l *ℤ ten_to k) → IsWithinLimit (h *ℤ ten_to k) → IsWithinLimit (v *ℤ ten_to k)
kept_between l v h k low high a b =
    let below = le_times l v (10 ^ k) low in
    let above = le_times v h (10 ^ k) high in
    omega (arith, ints, below, above, a, b)

part_whole : (v a : Interval) (w : Bool) → IsPart v a → OnTrue w (IsWhole a) → OnTrue w (IsWhole v)
part_whole v a true p h = record { least_scale = p.least ∙ h.least_scale; greatest_scale = p.greatest ∙ h.greatest_scale }
part_whole v a false p h = h

pub part_refines : (w : Bool) (v a e : Interval) → IsPart v a → CanRefine w a e → CanRefine w v e
part_refines w v a e p can =
    let same : greater_scale a e ≡ greater_scale v e = ap (λ s. max s e.s_hi) (sym p.greatest) in
    let k = greater_scale a e - a.s_hi in
    let places : k ≡ greater_scale v e - v.s_hi = ap (λ s. max s e.s_hi - s) (sym p.greatest) in
    let l = can.aligned.left in
    let low : IsWithinLimit (v.lo *ℤ ten_to k) = kept_between a.lo v.lo a.hi k p.low (omega (arith, ints, p.order, p.high)) l.low l.high in
    let high : IsWithinLimit (v.hi *ℤ ten_to k) = kept_between a.lo v.hi a.hi k (omega (arith, ints, p.order, p.low)) p.high l.low l.high in
    record {
      aligned = record {
        left = record { low = subst (λ j. IsWithinLimit (v.lo *ℤ ten_to j)) places low; high = subst (λ j. IsWithinLimit (v.hi *ℤ ten_to j)) places high };
        right = subst (λ q. HasKeptEnds (at_scale q e)) same can.aligned.right;
      };
      left_whole = part_whole v a w p can.left_whole;
      right_whole = can.right_whole;
    }

pub turned : (w : Bool) (a b : Interval) → CanRefine w a b → CanRefine w b a
turned w a b can =
    let same = max_comm a.s_hi b.s_hi in
    record {
      aligned = record {
        left = subst (λ q. HasKeptEnds (at_scale q b)) same can.aligned.right;
        right = subst (λ q. HasKeptEnds (at_scale q a)) same can.aligned.left;
      };
      left_whole = can.right_whole;
      right_whole = can.left_whole;
    }

-- ---- the second side

-- after a variable's range was replaced another has the new one, where both are one, or its own
pub data IsNewOrOld (rs : List Interval) (m n : ℕ) (a : Interval) : Type 0 where
  new : m ≡ n → slice_get (set rs m a) n ≡ Some a → IsNewOrOld rs m n a
  old : slice_get (set rs m a) n ≡ slice_get rs n → IsNewOrOld rs m n a

pub new_or_old : (rs : List Interval) (m n : ℕ) (a : Interval) → IsNewOrOld rs m n a
new_or_old [] m n a = old refl
new_or_old (r ∷ rs) zero zero a = new refl refl
new_or_old (r ∷ rs) zero (suc n) a = old refl
new_or_old (r ∷ rs) (suc m) zero a = old refl
new_or_old (r ∷ rs) (suc m) (suc n) a = elim (new_or_old rs m n a) [ new e h ↦ new (ap suc e) h | old h ↦ old h ]

-- the second side's range is that of before, or a part of the first side's where both are one variable
module _ (s : Sides) (allowed : SignSet) (rs after : List Interval) (can : CanCompare s rs) where
  abbrev l : Interval
  l = s.left.range

  abbrev r : Interval
  r = s.right.range

  abbrev back : Against
  back = against l (exchanged allowed) s.whole

  second_old : (n : ℕ) → s.right.variable ≡ Some n → slice_get after n ≡ slice_get rs n → CanNarrowAt n back after
  second_old n e same = record { range = r; there = same ∙ can.right n e; refines = turned s.whole l r can.ranges }

  second_after : (o : Option ℕ) → s.left.variable ≡ o → narrowed o (against r allowed s.whole) rs ≡ Some after → CanNarrow s.right.variable back after
  second_after None e is n right = let same : rs ≡ after = cc in second_old n right (ap (λ rs. slice_get rs n) (sym same))
  second_after (Some m) e is n right = by_part (refined l r allowed s.whole) refl (ap (option_and_then (λ v. option_map (slice_set rs m) (refined v r allowed s.whole))) (sym (can.left m e)) ∙ is)
    where
      by_part : (o : Option Interval) → refined l r allowed s.whole ≡ o → option_map (slice_set rs m) o ≡ Some after → CanNarrowAt n back after
      by_part None f is = absurd (cc)
      by_part (Some q) f is =
          let same : set rs m q ≡ after = cc in
          elim (new_or_old rs m n q) [
            | new mn there ↦
                let one : Some l ≡ Some r = sym (can.left m e) ∙ ap (slice_get rs) mn ∙ can.right n right in
                let lr : l ≡ r = cc in
                record {
                  range = q;
                  there = ap (λ rs. slice_get rs n) (sym same) ∙ there;
                  refines = part_refines s.whole q l l (refined_part l r q allowed s.whole f) (subst (λ x. CanRefine s.whole l x) (sym lr) can.ranges);
                }
            | old there ↦ second_old n right (ap (λ rs. slice_get rs n) (sym same) ∙ there)
          ]

-- the second side of a comparison may be refined after the first one
pub second_narrows : (s : Sides) (allowed : SignSet) (rs after : List Interval) → CanCompare s rs → Some after ≡ narrowed s.left.variable (against s.right.range allowed s.whole) rs → CanNarrow s.right.variable (against s.left.range (exchanged allowed) s.whole) after
second_narrows s allowed rs after can is = second_after s allowed rs after can s.left.variable refl (sym is)
