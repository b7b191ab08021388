-- The branch of a comparison that its value takes can be reached, and each range that it refines holds its value.
use Rattle.std.proofs.Common.{◌≡◌, ℕ, ℤ, pos, ◌*ℤ◌, List, [], ◌∷◌, Bool, true, false, not, ◌&&◌, ◌||◌, if◌then◌else◌, Option, Some, None, Ordering, Less, Equal, Greater, refl, sym, ap, ◌∙◌, subst, inl, inr}
use Rattle.std.specs.Prelude.{◌⊎◌, ⊤, int_le}
use Rattle.std.specs.Bool.{OnTrue}
use Rattle.std.specs.Option.{option_map, option_or}
use Rattle.std.specs.Ordering.{int_cmp, ordering_reverse}
use Rattle.std.specs.Cmp.{int_cmp_total}
use Rattle.std.specs.Str.{bytes_eq}
use Rattle.scaled_decimal.specs.Decimals.{Decimal, numerator_of, scale_of, ten_to, value_order, order_number}
use Rattle.scaled_decimal.specs.WholeNumbers.{truth}
use Rattle.pap_tree.specs.declared.expression.Binary.{Binary}
use Rattle.pap_tree.specs.Term.{whole, long, point, text, known, named, Term, leaf, item, one, two, choice}
use Rattle.interval_num.specs.declared.sign_set.SignSet.{SignSet}
use Rattle.interval_num.specs.Intervals.{Interval, interval, Contains, IsWhole}
use Rattle.interval_num.specs.Signs.{signs_of, HasSignOf, HasSign}
use Rattle.interval_num.specs.Refinement.{refined, is_apart, without_end, unless_empty, low_end, high_end}
use Rattle.interval_num.specs.Soundness.{IsAllowed}
use Rattle.interval_num.proofs.Laws.{signs_sound, refinement_sound, none_allowed}
use Rattle.pap_types.specs.Scopes.{Scope, constant_in}
use Rattle.pap_types.specs.Operations.{holds_of, is_zero}
use Rattle.pap_types.specs.Values.{Env, look, value}
use Rattle.interval_walk.specs.Ranges.{Ranges, range_named, put_range}
use Rattle.interval_walk.specs.Branches.{Sides, signs_where, others, exchanged, can_have, narrowed_name, narrowed, branch_of}
use Rattle.interval_walk.specs.Soundness.{AreWithin, AreReachedWithin}
use Rattle.interval_walk.proofs.EnvLemmas.{look_inside, within_narrow}

-- ---- signs

-- the sign c of two decimals is allowed where c op k holds
pub sign_holds : (op : Binary) (k : ℤ) (o : Ordering) → holds_of op (int_cmp (order_number o) k) ≡ true → HasSignOf (signs_where op k) o
sign_holds op k Less e = e
sign_holds op k Equal e = e
sign_holds op k Greater e = e

not_of : (t : Bool) → t ≡ false → not t ≡ true
not_of true e = absurd (cc)
not_of false e = refl

-- and one of the others where it doesn't
pub sign_fails : (op : Binary) (k : ℤ) (o : Ordering) → holds_of op (int_cmp (order_number o) k) ≡ false → HasSignOf (others (signs_where op k)) o
sign_fails op k Less e = not_of _ e
sign_fails op k Equal e = not_of _ e
sign_fails op k Greater e = not_of _ e

-- an order is that of its number and zero
pub order_of_number : (o : Ordering) → int_cmp (order_number o) (pos 0) ≡ o
order_of_number Less = refl
order_of_number Equal = refl
order_of_number Greater = refl

exchanged_order : (s : SignSet) (o : Ordering) → HasSignOf s o → HasSignOf (exchanged s) (ordering_reverse o)
exchanged_order s Less h = h
exchanged_order s Equal h = h
exchanged_order s Greater h = h

pub exchanged_sign : (s : SignSet) (x y : Decimal) → HasSign s x y → HasSign (exchanged s) y x
exchanged_sign s x y h =
    let back : ordering_reverse (value_order x y) ≡ value_order y x = sym (int_cmp_total.antisymm (numerator_of y *ℤ ten_to (scale_of x)) (numerator_of x *ℤ ten_to (scale_of y))) in
    subst (HasSignOf (exchanged s)) back (exchanged_order s (value_order x y) h)

pub common_sign : (a s : SignSet) (o : Ordering) → HasSignOf a o → HasSignOf s o → can_have a s ≡ true
common_sign a s Less h k = rw (h, k) refl
common_sign a s Equal h k = rw (h, k) (either_true (a.minus && s.minus))
  where
    either_true : (t : Bool) → (t || true) ≡ true
    either_true true = refl
    either_true false = refl
common_sign a s Greater h k = rw (h, k) (either_last (a.minus && s.minus) (a.zero && s.zero))
  where
    either_last : (t u : Bool) → (t || (u || true)) ≡ true
    either_last true u = refl
    either_last false true = refl
    either_last false false = refl

-- ---- whole numbers stay whole

pub unless_same : (v r : Interval) → unless_empty v ≡ Some r → v ≡ r
unless_same v r e = by_order (int_le v.lo v.hi) e
  where
    by_order : (t : Bool) → (if t then Some v else None) ≡ Some r → v ≡ r
    by_order true f = cc
    by_order false f = absurd (cc)

-- a refined range keeps its scales
pub record KeepsScales (v r : Interval) : Type 0 where
  pub least : r.s_lo ≡ v.s_lo
  pub greatest : r.s_hi ≡ v.s_hi

pub refined_scales : (v e r : Interval) (allowed : SignSet) (t : Bool) → refined v e allowed t ≡ Some r → KeepsScales v r
refined_scales v e r allowed t f = by_apart (is_apart e allowed t) f
  where
    part : Interval
    part = interval (low_end v e allowed t) (high_end v e allowed t) v.s_lo v.s_hi

    by_apart : (u : Bool) → unless_empty (if u then without_end e.lo part else part) ≡ Some r → KeepsScales v r
    by_apart true g =
        let same = unless_same (without_end e.lo part) r g in
        record { least = ap (λ r. r.s_lo) (sym same); greatest = ap (λ r. r.s_hi) (sym same) }
    by_apart false g =
        let same = unless_same part r g in
        record { least = ap (λ r. r.s_lo) (sym same); greatest = ap (λ r. r.s_hi) (sym same) }

-- the range of a variable that a term is
abbrev pub FoundWhole : Bool → Term → Ranges → Type 0
FoundWhole t (leaf (named x)) rs = (v : Interval) → range_named rs x ≡ Some v → OnTrue t (IsWhole v)
FoundWhole t _ rs = ⊤

on_scales : (t : Bool) (v r : Interval) → KeepsScales v r → OnTrue t (IsWhole v) → OnTrue t (IsWhole r)
on_scales true v r k w = record { least_scale = k.least ∙ w.least_scale; greatest_scale = k.greatest ∙ w.greatest_scale }
on_scales false v r k w = tt

-- what stands at a name after another range was put
pub named_put : (rs : Ranges) (x y : List ℕ) (a b : Interval) → range_named (put_range rs x a) y ≡ Some b → (a ≡ b) ⊎ (range_named rs y ≡ Some b)
named_put [] x y a b e = inr e
named_put (r ∷ rs) x y a b e = by_names (bytes_eq r.name x) (bytes_eq r.name y) refl refl e (named_put rs x y a b)
  where
    by_names : (t u : Bool) → bytes_eq r.name x ≡ t → bytes_eq r.name y ≡ u → range_named (if t then record r { range = a } ∷ rs else r ∷ put_range rs x a) y ≡ Some b → (range_named (put_range rs x a) y ≡ Some b → (a ≡ b) ⊎ (range_named rs y ≡ Some b)) → (a ≡ b) ⊎ ((if bytes_eq r.name y then Some r.range else range_named rs y) ≡ Some b)
    by_names true true f g h later = inl (let k : Some a ≡ Some b = subst (λ u. (if u then Some a else range_named rs y) ≡ Some b) g h in cc)
    by_names true false f g h later = inr (rw g (subst (λ u. (if u then Some a else range_named rs y) ≡ Some b) g h))
    by_names false true f g h later = inr (rw g (subst (λ u. (if u then Some r.range else range_named (put_range rs x a) y) ≡ Some b) g h))
    by_names false false f g h later = rw g (later (subst (λ u. (if u then Some r.range else range_named (put_range rs x a) y) ≡ Some b) g h))

module _ (t : Bool) (allowed : SignSet) (e : Interval) (rs rs1 : Ranges) where
  named_whole : (x y : List ℕ) (o : Option Interval) → range_named rs x ≡ o → narrowed_name t allowed x e rs o ≡ Some rs1 → ((v : Interval) → range_named rs x ≡ Some v → OnTrue t (IsWhole v)) → ((v : Interval) → range_named rs y ≡ Some v → OnTrue t (IsWhole v)) → (v : Interval) → range_named rs1 y ≡ Some v → OnTrue t (IsWhole v)
  named_whole x y None f g wx wy v h = let same : rs ≡ rs1 = cc in wy v (subst (λ s. range_named s y ≡ Some v) (sym same) h)
  named_whole x y (Some u) f g wx wy v h = by_part (refined u e allowed t) refl g
    where
      by_part : (o : Option Interval) → refined u e allowed t ≡ o → option_map (put_range rs x) o ≡ Some rs1 → OnTrue t (IsWhole v)
      by_part None p q = absurd (cc)
      by_part (Some a) p q =
          let same : put_range rs x a ≡ rs1 = cc in
          elim (named_put rs x y a v (subst (λ s. range_named s y ≡ Some v) (sym same) h)) [
            | inl is ↦ subst (λ a. OnTrue t (IsWhole a)) is (on_scales t u a (refined_scales u e a allowed t p) (wx u f))
            | inr is ↦ wy v is
          ]

  -- one side's refinement leaves whole numbers at the other
  pub narrowed_whole : (s u : Term) → narrowed t allowed s e rs ≡ Some rs1 → FoundWhole t s rs → FoundWhole t u rs → FoundWhole t u rs1
  narrowed_whole (leaf (named x)) (leaf (named y)) g ws wu = named_whole x y (range_named rs x) refl g ws wu
  narrowed_whole (leaf (whole i)) u g ws wu = let same : rs ≡ rs1 = cc in subst (FoundWhole t u) same wu
  narrowed_whole (leaf (long i)) u g ws wu = let same : rs ≡ rs1 = cc in subst (FoundWhole t u) same wu
  narrowed_whole (leaf (point i)) u g ws wu = let same : rs ≡ rs1 = cc in subst (FoundWhole t u) same wu
  narrowed_whole (leaf (text i)) u g ws wu = let same : rs ≡ rs1 = cc in subst (FoundWhole t u) same wu
  narrowed_whole (leaf (known i)) u g ws wu = let same : rs ≡ rs1 = cc in subst (FoundWhole t u) same wu
  narrowed_whole (item y i) u g ws wu = let same : rs ≡ rs1 = cc in subst (FoundWhole t u) same wu
  narrowed_whole (one op i) u g ws wu = let same : rs ≡ rs1 = cc in subst (FoundWhole t u) same wu
  narrowed_whole (two op i j) u g ws wu = let same : rs ≡ rs1 = cc in subst (FoundWhole t u) same wu
  narrowed_whole (choice c i j) u g ws wu = let same : rs ≡ rs1 = cc in subst (FoundWhole t u) same wu
  narrowed_whole (leaf (named x)) u g ws wu = tt

-- ---- a side

module _ (scope : Scope) (t : Bool) (allowed : SignSet) (e : Interval) (rs : Ranges) (env : Env) (x y : Decimal) (w : AreWithin rs env) (hy : Contains e y) (sign : HasSign allowed x y) (we : OnTrue t (IsWhole e)) where
  name_narrowed : (n : List ℕ) (o : Option Interval) → range_named rs n ≡ o → value scope (leaf (named n)) env ≡ Some x → ((v : Interval) → range_named rs n ≡ Some v → OnTrue t (IsWhole v)) → AreReachedWithin (narrowed_name t allowed n e rs o) env
  name_narrowed n None f is wv = record { ranges = rs; is = refl; inside = w }
  name_narrowed n (Some v) f is wv =
      let l = look_inside rs env n v w f in
      let g = l.1 in
      let found : Some l.0 ≡ Some x = subst (λ o. option_or o (constant_in scope n) ≡ Some x) g is in
      let same : l.0 ≡ x = cc in
      let inside = subst (Contains v) same l.2 in
      let found_at : look env n ≡ Some x = g ∙ ap Some same in
      by_part v found_at (wv v f) (record { is = inside; other = y; of = hy; sign = sign }) (refined v e allowed t) refl
    where
      by_part : (v : Interval) → look env n ≡ Some x → OnTrue t (IsWhole v) → IsAllowed v e allowed x → (o : Option Interval) → refined v e allowed t ≡ o → AreReachedWithin (option_map (put_range rs n) o) env
      by_part v g wv h (Some r) p = record { ranges = put_range rs n r; is = refl; inside = within_narrow rs env n r x w g (refinement_sound v e r allowed t wv we p x h) }
      by_part v g wv h None p = absurd (none_allowed v e allowed t wv we p x h)

  pub side_narrowed : (s : Term) → value scope s env ≡ Some x → FoundWhole t s rs → AreReachedWithin (narrowed t allowed s e rs) env
  side_narrowed (leaf (named n)) is wv = name_narrowed n (range_named rs n) refl is wv
  side_narrowed (leaf (whole i)) is wv = record { ranges = rs; is = refl; inside = w }
  side_narrowed (leaf (long i)) is wv = record { ranges = rs; is = refl; inside = w }
  side_narrowed (leaf (point i)) is wv = record { ranges = rs; is = refl; inside = w }
  side_narrowed (leaf (text i)) is wv = record { ranges = rs; is = refl; inside = w }
  side_narrowed (leaf (known i)) is wv = record { ranges = rs; is = refl; inside = w }
  side_narrowed (item z i) is wv = record { ranges = rs; is = refl; inside = w }
  side_narrowed (one op i) is wv = record { ranges = rs; is = refl; inside = w }
  side_narrowed (two op i j) is wv = record { ranges = rs; is = refl; inside = w }
  side_narrowed (choice c i j) is wv = record { ranges = rs; is = refl; inside = w }

-- ---- both sides

-- the values of two sides, in their ranges
pub record SidesHold (scope : Scope) (s : Sides) (env : Env) (x y : Decimal) : Type 0 where
  pub left : value scope s.left env ≡ Some x
  pub right : value scope s.right env ≡ Some y
  pub left_inside : Contains s.left_range x
  pub right_inside : Contains s.right_range y

-- the ranges of whole numbers are so
pub record SidesWhole (t : Bool) (s : Sides) (rs : Ranges) : Type 0 where
  pub left : FoundWhole t s.left rs
  pub right : FoundWhole t s.right rs
  pub left_range : OnTrue t (IsWhole s.left_range)
  pub right_range : OnTrue t (IsWhole s.right_range)

-- the branch of the sign that the values have
pub branch_reached : (scope : Scope) (t : Bool) (allowed : SignSet) (s : Sides) (rs : Ranges) (env : Env) (x y : Decimal) → AreWithin rs env → SidesHold scope s env x y → SidesWhole t s rs → HasSign allowed x y → AreReachedWithin (branch_of t allowed s rs) env
branch_reached scope t allowed s rs env x y w h k sign =
    let can = common_sign allowed (signs_of s.left_range s.right_range) (value_order x y) sign (signs_sound s.left_range s.right_range x y h.left_inside h.right_inside) in
    let first = side_narrowed scope t allowed s.right_range rs env x y w h.right_inside sign k.right_range s.left h.left k.left in
    let whole_right = narrowed_whole t allowed s.right_range rs first.ranges s.left s.right first.is k.left k.right in
    let second = side_narrowed scope t (exchanged allowed) s.left_range first.ranges env y x first.inside h.left_inside (exchanged_sign allowed x y sign) k.left_range s.right h.right whole_right in
    record {
      ranges = second.ranges;
      is = rw can (rw first.is second.is);
      inside = second.inside;
    }

-- the branches of a comparison, of which the truth takes one
pub record BranchesHold (t : Bool) (allowed : SignSet) (s : Sides) (rs : Ranges) (env : Env) (b : Bool) : Type 0 where
  pub holds : is_zero (truth b) ≡ false → AreReachedWithin (branch_of t allowed s rs) env
  pub fails : is_zero (truth b) ≡ true → AreReachedWithin (branch_of t (others allowed) s rs) env

pub branches_hold : (scope : Scope) (t : Bool) (allowed : SignSet) (s : Sides) (rs : Ranges) (env : Env) (x y : Decimal) → AreWithin rs env → SidesHold scope s env x y → SidesWhole t s rs → (b : Bool) → (b ≡ true → HasSign allowed x y) → (b ≡ false → HasSign (others allowed) x y) → BranchesHold t allowed s rs env b
branches_hold scope t allowed s rs env x y w h k true if_true if_false = record { holds = λ _. branch_reached scope t allowed s rs env x y w h k (if_true refl); fails = λ never. absurd (cc) }
branches_hold scope t allowed s rs env x y w h k false if_true if_false = record { holds = λ never. absurd (cc); fails = λ _. branch_reached scope t (others allowed) s rs env x y w h k (if_false refl) }
