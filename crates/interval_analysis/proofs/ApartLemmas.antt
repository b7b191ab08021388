-- Between sides of one greatest scale that aren't one variable, an allowed sign leaves something of both.
use Rattle.std.proofs.Common.{◌≡◌, ℕ, Bool, true, false, ◌&&◌, ◌||◌, List, set, Option, Some, None, Ordering, Less, Equal, Greater, refl, sym, ap, ◌∙◌, subst, ◌⊎◌, inl, inr}
use Rattle.std.specs.Prelude.{is_some, if◌then◌else◌, slice_get, slice_set}
use Rattle.std.specs.Option.{option_map, option_and_then}
use Rattle.interval_num.specs.declared.sign_set.SignSet.{SignSet}
use Rattle.interval_num.specs.Intervals.{Interval}
use Rattle.interval_num.specs.Refinement.{refined}
use Rattle.interval_num.specs.Signs.{HasSignOf, signs_of}
use Rattle.interval_num.proofs.Laws.{refined_some, signs_back}
use Rattle.interval_walk.specs.Branches.{can_have, exchanged}
use Rattle.interval_analysis.specs.declared.comparisons.Against.{Against}
use Rattle.interval_analysis.specs.declared.comparisons.Sides.{Sides}
use Rattle.interval_analysis.specs.private.ComparisonViews.{AreApart, CanCompare, against, branch_by, narrowed}
use Rattle.interval_analysis.proofs.PartLemmas.{new, old, new_or_old}

both : (s t : Bool) → (s && t) ≡ true → (s ≡ true) × (t ≡ true)
both true t e = (refl, e)
both false t e = absurd (cc)

either : (s t : Bool) → (s || t) ≡ true → (s ≡ true) ⊎ (t ≡ true)
either true t e = inl refl
either false t e = inr e

-- a sign of both sets
record HaveSign (a b : SignSet) : Type 0 where
  order : Ordering
  left : HasSignOf a order
  right : HasSignOf b order

sign_there : (a b : SignSet) → can_have a b ≡ true → HaveSign a b
sign_there a b e = elim (either (a.minus && b.minus) ((a.zero && b.zero) || (a.plus && b.plus)) e) [
  | inl minus ↦ (let h = both a.minus b.minus minus in record { order = Less; left = h.0; right = h.1 })
  | inr rest ↦ elim (either (a.zero && b.zero) (a.plus && b.plus) rest) [
    | inl zero ↦ (let h = both a.zero b.zero zero in record { order = Equal; left = h.0; right = h.1 })
    | inr plus ↦ (let h = both a.plus b.plus plus in record { order = Greater; left = h.0; right = h.1 })
  ]
]

back : Ordering → Ordering
back Less = Greater
back Equal = Equal
back Greater = Less

turned_back : (a : SignSet) (o : Ordering) → HasSignOf a o → HasSignOf (exchanged a) (back o)
unfolding back
turned_back a Less h = h
turned_back a Equal h = h
turned_back a Greater h = h

-- a side of which something is left, and the other variables
record IsNarrowed (v : Option ℕ) (a : Against) (rs : List Interval) : Type 0 where
  after : List Interval
  is : narrowed v a rs ≡ Some after
  others : (n : ℕ) → (v ≡ Some n → ⊥) → slice_get after n ≡ slice_get rs n

narrows : (v : Option ℕ) (a : Against) (rs : List Interval) (range q : Interval) → ((n : ℕ) → v ≡ Some n → slice_get rs n ≡ Some range)
    → refined range a.range a.allowed a.whole ≡ Some q → IsNarrowed v a rs
narrows None a rs range q has is = record { after = rs; is = refl; others = λ n other. refl }
narrows (Some m) a rs range q has is = record {
  after = set rs m q;
  is =
      ap (option_and_then (λ v. option_map (slice_set rs m) (refined v a.range a.allowed a.whole))) (has m refl)
      ∙ ap (option_map (slice_set rs m)) is;
  others = λ n other. elim (new_or_old rs m n q) [ new e there ↦ absurd (other (ap Some e)) | old there ↦ there ];
}

module _ (s : Sides) (allowed : SignSet) (rs : List Interval) (can : CanCompare s rs) (apart : AreApart s) where
  abbrev l : Interval
  l = s.left.range

  abbrev r : Interval
  r = s.right.range

  abbrev after : Option (List Interval)
  after =
      option_and_then (narrowed s.right.variable (against l (exchanged allowed) s.whole)) (narrowed s.left.variable (against r allowed s.whole) rs)

  some_after : HaveSign allowed (signs_of l r) → is_some after ≡ true
  some_after h =
      let part = refined_some l r apart.scale allowed s.whole h.order apart.left apart.right can.ranges.left_whole can.ranges.right_whole h.left h.right in
      let right = subst (λ t. HasSignOf t (back h.order)) (sym (signs_back l r apart.scale)) (turned_back (signs_of l r) h.order h.right) in
      let other = refined_some r l (sym apart.scale) (exchanged allowed) s.whole (back h.order) apart.right apart.left can.ranges.right_whole can.ranges.left_whole (turned_back allowed h.order h.left) right in
      let first = narrows s.left.variable (against r allowed s.whole) rs l part.0 can.left part.1 in
      let stays : (n : ℕ) → s.right.variable ≡ Some n → slice_get first.after n ≡ Some r =
      λ n is. first.others n (λ same. apart.variables (same ∙ sym is)) ∙ can.right n is in
      let second = narrows s.right.variable (against l (exchanged allowed) s.whole) first.after r other.0 stays other.1 in
      ap is_some (ap (option_and_then (narrowed s.right.variable (against l (exchanged allowed) s.whole))) first.is ∙ second.is)

  -- some value leads where there is an allowed sign
  pub apart_leads : can_have allowed (signs_of l r) ≡ is_some (branch_by s allowed rs)
  apart_leads = by (can_have allowed (signs_of l r)) refl
    where
      by : (t : Bool) → can_have allowed (signs_of l r) ≡ t → t ≡ is_some (if t then after else None)
      by true e = sym (some_after (sign_there allowed (signs_of l r) e))
      by false e = refl
