-- A side of a comparison, by the number of its variable and by its name.
use Rattle.std.proofs.Common.{◌≡◌, ℕ, true, false, Bool, List, length, set, Option, Some, None, refl, sym, ap, ap₂, ◌∙◌, arith, inl, inr}
use Rattle.std.specs.Prelude.{if◌then◌else◌, slice_get, slice_set}
use Rattle.std.specs.Option.{option_map, option_and_then}
use Rattle.std.proofs.lemmas.List.{length-set}
use Rattle.std.proofs.lemmas.Option.{slice_get_cases}
use Rattle.pap_tree.specs.declared.plan.PlanText.{PlanText}
use Rattle.pap_tree.specs.Term.{Term, leaf, item, one, two, choice, whole, long, point, text, known, named}
use Rattle.pap_types.specs.Scopes.{number_of}
use Rattle.interval_num.specs.declared.sign_set.SignSet.{SignSet}
use Rattle.interval_num.specs.Intervals.{Interval}
use Rattle.interval_num.specs.Refinement.{refined}
use Rattle.interval_num.specs.Signs.{signs_of}
use Rattle.interval_walk.specs.Ranges.{Ranges, range_named, put_range}
use Rattle.interval_walk.specs.Branches as meant
use Rattle.interval_walk.specs.Branches.{can_have, exchanged, others}
use Rattle.interval_analysis.specs.declared.comparisons.Against.{Against}
use Rattle.interval_analysis.specs.declared.comparisons.Sides.{Sides}
use Rattle.pap_types.specs.private.ScopeViews.{variables_in}
use Rattle.interval_analysis.specs.private.PlanViews.{variable_in, ranges_in, IsSized}
use Rattle.interval_analysis.specs.private.ComparisonViews.{against, branch_by, branches_by, narrowed}
use Rattle.interval_analysis.specs.private.TestViews.{named_ways}
use Rattle.interval_analysis.proofs.NameLemmas.{named_by, named_none, number_in, put_by}

-- ---- by name

module _ (p : PlanText) where
  module _ (a : Against) (rs : List Interval) (sized : IsSized p rs) where
    abbrev env : Ranges
    env = ranges_in p rs

    put_named : (x : List ℕ) (n : ℕ) (o : Option Interval) → number_of (variables_in p) x ≡ Some n → option_map (put_range env x) o ≡ option_map (ranges_in p) (option_map (slice_set rs n) o)
    put_named x n None number = refl
    put_named x n (Some v) number = ap Some (put_by (variables_in p) rs x v n sized number)

    by_number : (x : List ℕ) (o : Option ℕ) → number_of (variables_in p) x ≡ o → meant.narrowed_name a.whole a.allowed x a.range env (range_named env x) ≡ option_map (ranges_in p) (narrowed o a rs)
    by_number x None number = ap (meant.narrowed_name a.whole a.allowed x a.range env) (named_none (variables_in p) rs x sized number)
    by_number x (Some n) number =
        let within = (number_in (variables_in p) x n number).1 in
        ap (meant.narrowed_name a.whole a.allowed x a.range env) (named_by (variables_in p) rs x n sized number)
        ∙ elim (slice_get_cases rs n).1 [
          | inl here ↦
              ap (meant.narrowed_name a.whole a.allowed x a.range env) here.2
              ∙ put_named x n (refined here.0 a.range a.allowed a.whole) number
              ∙ sym (ap (λ o. option_map (ranges_in p) (option_and_then (λ v. option_map (slice_set rs n) (refined v a.range a.allowed a.whole)) o)) here.2)
          | inr past ↦ absurd (omega (arith, within, past.0, sized))
        ]

    plain : (v : Option ℕ) → v ≡ None → Some env ≡ option_map (ranges_in p) (narrowed v a rs)
    plain v e = sym (ap (λ o. option_map (ranges_in p) (narrowed o a rs)) e)

    -- a side that stands against another
    pub narrow_named : (t : Term) (v : Option ℕ) → v ≡ variable_in p t → meant.narrowed a.whole a.allowed t a.range env ≡ option_map (ranges_in p) (narrowed v a rs)
    narrow_named (leaf (named x)) v e = by_number x (number_of (variables_in p) x) refl ∙ ap (λ o. option_map (ranges_in p) (narrowed o a rs)) (sym e)
    narrow_named (leaf (whole i)) v e = plain v e
    narrow_named (leaf (long i)) v e = plain v e
    narrow_named (leaf (point d)) v e = plain v e
    narrow_named (leaf (text d)) v e = plain v e
    narrow_named (leaf (known k)) v e = plain v e
    narrow_named (item x t) v e = plain v e
    narrow_named (one op t) v e = plain v e
    narrow_named (two op t u) v e = plain v e
    narrow_named (choice t u z) v e = plain v e

    sized_set : (n : ℕ) (o : Option Interval) (ss : List Interval) → option_and_then (λ v. option_map (slice_set rs n) (refined v a.range a.allowed a.whole)) o ≡ Some ss → IsSized p ss
    sized_set n None ss is = absurd (cc)
    sized_set n (Some v) ss is = by (refined v a.range a.allowed a.whole) is
      where
        by : (q : Option Interval) → option_map (slice_set rs n) q ≡ Some ss → IsSized p ss
        by None is = absurd (cc)
        by (Some r) is = let same : set rs n r ≡ ss = cc in sym (ap length same) ∙ length-set rs n r ∙ sized

    narrowed_sized : (v : Option ℕ) (ss : List Interval) → narrowed v a rs ≡ Some ss → IsSized p ss
    narrowed_sized None ss is = let same : rs ≡ ss = cc in sym (ap length same) ∙ sized
    narrowed_sized (Some n) ss is = sized_set n (slice_get rs n) ss is

  module _ (s : Sides) (e f : Term) (left : s.left.variable ≡ variable_in p e) (right : s.right.variable ≡ variable_in p f) (rs : List Interval) (sized : IsSized p rs) where
    second_named : (allowed : SignSet) (o : Option (List Interval)) → narrowed s.left.variable (against s.right.range allowed s.whole) rs ≡ o
        → option_and_then (meant.narrowed s.whole (exchanged allowed) f s.left.range) (option_map (ranges_in p) o) ≡ option_map (ranges_in p) (option_and_then (narrowed s.right.variable (against s.left.range (exchanged allowed) s.whole)) o)
    second_named allowed None is = refl
    second_named allowed (Some ss) is = narrow_named (against s.left.range (exchanged allowed) s.whole) ss (narrowed_sized (against s.right.range allowed s.whole) rs sized s.left.variable ss is) f s.right.variable right

    branch_named : (allowed : SignSet) → meant.branch_of s.whole allowed (meant.sides e f s.left.range s.right.range) (ranges_in p rs) ≡ option_map (ranges_in p) (branch_by s allowed rs)
    branch_named allowed = by (can_have allowed (signs_of s.left.range s.right.range))
      where
        after : Option (List Interval)
        after = narrowed s.left.variable (against s.right.range allowed s.whole) rs

        by : (b : Bool) → (if b then option_and_then (meant.narrowed s.whole (exchanged allowed) f s.left.range) (meant.narrowed s.whole allowed e s.right.range (ranges_in p rs)) else None)
            ≡ option_map (ranges_in p) (if b then option_and_then (narrowed s.right.variable (against s.left.range (exchanged allowed) s.whole)) after else None)
        by false = refl
        by true =
            ap (option_and_then (meant.narrowed s.whole (exchanged allowed) f s.left.range)) (narrow_named (against s.right.range allowed s.whole) rs sized e s.left.variable left)
            ∙ second_named allowed after refl

    -- the branches of a comparison
    pub branches_named : (allowed : SignSet) → meant.branches_of s.whole allowed (meant.sides e f s.left.range s.right.range) (ranges_in p rs) ≡ named_ways p (branches_by s allowed rs)
    branches_named allowed = ap₂ (λ (h f : Option Ranges). record { holds = h; fails = f }) (branch_named allowed) (branch_named (others allowed))
