-- The values of a record that the inputs take, input by input.
use Rattle.std.proofs.Common.{◌≡◌, ℕ, zero, suc, ◌+◌, ◌<◌, List, [], ◌∷◌, take, get_or, length, Bool, true, false, ◌&&◌, ◌||◌, not, cond, drop, Option, Some, None, refl, sym, ap, subst, ◌∙◌, add-one, arith}
use Rattle.std.specs.Prelude.{is_none, map, option_map, option_and_then, replicate, IfSome}
use Rattle.std.specs.List.{find, slice_get}
use Rattle.std.specs.Str.{bytes_eq}
use Rattle.std.proofs.lemmas.List.Folds.{list_any-append}
use Rattle.std.proofs.lemmas.Map.Text.{is_eq-slice_cmp}
use Rattle.std.proofs.Math.ListN.{get_or-map as map_at, length-map}
use Rattle.std.proofs.lemmas.Slice.Eq.{bytes_eq-Decides}
use Rattle.std.proofs.lemmas.Option.{slice_get-get_or}
use Rattle.std.specs.declared.cmp.Ordering.{Ordering}
use Rattle.std.specs.declared.cmp.Ordering.TheVariants.{Less, Equal, Greater}
use Rattle.std.specs.Ordering.{is_eq, ordering_reverse}
use Rattle.std.specs.Cmp.Lexicographic.{nat_list_cmp_total}
use Rattle.scaled_decimal.specs.Decimals.{Decimal}
use Rattle.rising_lists.specs.Keyed.{AreAbove, IsRising}
use Rattle.payroll_records.proofs.Laws.{at_place, place_within}
use Rattle.carry_bindings.specs.private.Views.{marked, taken}
use Rattle.std.proofs.Math.Seq.{take-suc}
use Rattle.limits_file.specs.declared.slots.Slot.{Slot}
use Rattle.payroll_records.specs.NamedValues.{name_cmp, name_of, place_at}
use Rattle.limits_file.specs.declared.limits.Carry.{Carry}
use Rattle.payroll_records.specs.declared.values.NamedValue.{NamedValue}
use Rattle.carry_bindings.specs.Filling.{given_or_default, takes, unknown}

one_more : (slots : List Slot) (i : ℕ) (s : Slot) (q : List ℕ) → i < length slots → s ≡ get_or slots i s →
    takes (take (i + 1) slots) q ≡ (takes (take i slots) q || ((bytes_eq s.name q && is_none s.carry) || false))
one_more slots i s q l is =
    rw (add-one, take-suc slots i s l, ← is) (list_any-append (λ (t : Slot). bytes_eq t.name q && is_none t.carry) (take i slots) (s ∷ []))

-- ---- one input more

eq_turn : (a b : List ℕ) → bytes_eq a b ≡ bytes_eq b a
eq_turn a b =
    sym (is_eq-slice_cmp a b) ∙ sym (turned (name_cmp a b)) ∙ ap is_eq (sym (nat_list_cmp_total.antisymm b a)) ∙ is_eq-slice_cmp b a
  where
    turned : (o : Ordering) → is_eq (ordering_reverse o) ≡ is_eq o
    turned Less = refl
    turned Equal = refl
    turned Greater = refl

-- an input that carries takes nothing
carries_none : (e t : Bool) → (t || ((e && false) || false)) ≡ t
carries_none true true = refl
carries_none true false = refl
carries_none false true = refl
carries_none false false = refl

takes_none : (t : Bool) → (t || ((false && true) || false)) ≡ t
takes_none true = refl
takes_none false = refl

takes_it : (t : Bool) → (t || ((true && true) || false)) ≡ true
takes_it true = refl
takes_it false = refl

abbrev more : (List ℕ → Bool) → List ℕ → Bool → List ℕ → Bool
more old name free q = old q || ((bytes_eq name q && free) || false)

none_more : (old : List ℕ → Bool) (name : List ℕ) (values : List NamedValue) → map (λ v. more old name false v.name) values ≡ map (λ v. old v.name) values
none_more old name [] = refl
none_more old name (v ∷ vs) = rw (carries_none (bytes_eq name v.name) (old v.name), none_more old name vs) refl

above_more : (old : List ℕ → Bool) (name : List ℕ) (values : List NamedValue) → AreAbove name_cmp name_of name values → map (λ v. more old name true v.name) values ≡ map (λ v. old v.name) values
above_more old name [] h = refl
above_more old name (v ∷ vs) h =
    let apart : bytes_eq name v.name ≡ false = sym (is_eq-slice_cmp name v.name) ∙ ap is_eq h.0 in
    rw (apart, takes_none (old v.name), above_more old name vs h.1) refl

-- an input that doesn't carry takes the value of its name
free_more : (old : List ℕ → Bool) (name : List ℕ) (values : List NamedValue) → IsRising name_cmp name_of values →
    map (λ v. more old name true v.name) values ≡ marked (map (λ v. old v.name) values) (place_at values name) None
free_more old name [] h = refl
free_more old name (v ∷ vs) h = by (bytes_eq v.name name) refl (place_at vs name) (free_more old name vs h.1)
  where
    by : (b : Bool) → bytes_eq v.name name ≡ b → (p : Option ℕ) → map (λ w. more old name true w.name) vs ≡ marked (map (λ w. old w.name) vs) p None →
        more old name true v.name ∷ map (λ w. more old name true w.name) vs ≡ marked (old v.name ∷ map (λ w. old w.name) vs) (cond b (Some 0) (option_map (λ i. i + 1) p)) None
    by true e p rest =
        let same : v.name ≡ name = (bytes_eq-Decides v.name name).0 e in
        let above = subst (λ n. AreAbove name_cmp name_of n vs) same h.0 in
        rw (eq_turn name v.name ∙ e, takes_it (old v.name), above_more old name vs above) refl
    by false e None rest = rw (eq_turn name v.name ∙ e, takes_none (old v.name), rest) refl
    by false e (Some k) rest = rw (eq_turn name v.name ∙ e, takes_none (old v.name), rest, add-one) refl

pub mark_more : (slots : List Slot) (i : ℕ) (s : Slot) (values : List NamedValue) → i < length slots → s ≡ get_or slots i s → IsRising name_cmp name_of values →
    taken (take (i + 1) slots) values ≡ marked (taken (take i slots) values) (place_at values s.name) s.carry
mark_more slots i s values l is rising = map_same values (λ q. one_more slots i s q l is) ∙ by s.carry (place_at values s.name) refl
  where
    map_same : (vs : List NamedValue) → ((q : List ℕ) → takes (take (i + 1) slots) q ≡ more (takes (take i slots)) s.name (is_none s.carry) q) →
        taken (take (i + 1) slots) vs ≡ map (λ v. more (takes (take i slots)) s.name (is_none s.carry) v.name) vs
    map_same [] h = refl
    map_same (v ∷ vs) h = rw (h v.name, map_same vs h) refl

    by : (c : Option Carry) (p : Option ℕ) → place_at values s.name ≡ p →
        map (λ v. more (takes (take i slots)) s.name (is_none c) v.name) values ≡ marked (taken (take i slots) values) p c
    by None p e = rw (← e) (free_more (takes (take i slots)) s.name values rising)
    by (Some carry) None e = none_more (takes (take i slots)) s.name values
    by (Some carry) (Some k) e = none_more (takes (take i slots)) s.name values

pub none_taken : (values : List NamedValue) → replicate (length values) false ≡ taken [] values
none_taken [] = refl
none_taken (v ∷ vs) = ap (λ t. false ∷ t) (none_taken vs)

-- ---- at a place

pub place_fits : (values : List NamedValue) (name : List ℕ) (n : ℕ) → n ≡ length values → IfSome (place_at values name) (λ i. i < n)
place_fits values name n e = by (place_at values name) refl
  where
    by : (p : Option ℕ) → place_at values name ≡ p → IfSome p (λ i. i < n)
    by None h = tt
    by (Some k) h = omega (arith, e, place_within values name k h)

pub taken_at : (slots : List Slot) (values : List NamedValue) (i : ℕ) (name : List ℕ) (b : Bool) → i < length (map name_of values) → name ≡ get_or (map name_of values) i name → b ≡ get_or (taken slots values) i b → b ≡ takes slots name
taken_at slots [] i name b l is at = absurd (omega arith)
taken_at slots (v ∷ vs) zero name b l is at = at ∙ ap (takes slots) (sym is)
taken_at slots (v ∷ vs) (suc i) name b l is at = taken_at slots vs i name b (omega arith) is at

-- the number at the place of a name
pub given_at : (values : List NamedValue) (s : Slot) (i : ℕ) (x : Decimal) → place_at values s.name ≡ Some i → x ≡ get_or (map (λ v. v.value) values) i x → given_or_default values s ≡ Some x
given_at values s i x e is =
    let d : NamedValue = record { name = []; value = x } in
    let at = at_place values s.name ∙ ap (option_and_then (slice_get values)) e ∙ slice_get-get_or values i d (place_within values s.name i e) in
    rw at (ap (λ y. Some y) (sym (map_at (λ v. v.value) values i d) ∙ sym is))

pub given_none : (values : List NamedValue) (s : Slot) → place_at values s.name ≡ None → given_or_default values s ≡ s.value
given_none values s e = rw (at_place values s.name, e) refl

-- the values from a place on, whose first name some slot takes, or none does
found_first : (slots : List Slot) (v : NamedValue) (vs : List NamedValue) (b : Bool) → option_map name_of (cond b (Some v) (find (λ w. not (takes slots w.name)) vs)) ≡ cond b (Some v.name) (unknown slots vs)
found_first slots v vs true = refl
found_first slots v vs false = refl

from_here : (slots : List Slot) (values : List NamedValue) (i : ℕ) (name : List ℕ) → i < length values → name ≡ get_or (map name_of values) i name →
    unknown slots (drop i values) ≡ cond (not (takes slots name)) (Some name) (unknown slots (drop (suc i) values))
from_here slots [] i name l is = absurd (omega arith)
from_here slots (v ∷ vs) zero name l is = rw is (found_first slots v vs (not (takes slots v.name)))
from_here slots (v ∷ vs) (suc i) name l is = from_here slots vs i name (omega arith) is

module _ (slots : List Slot) (values : List NamedValue) (i : ℕ) (name : List ℕ) (l : i < length (map name_of values)) (is : name ≡ get_or (map name_of values) i name) where
  here : unknown slots (drop i values) ≡ cond (not (takes slots name)) (Some name) (unknown slots (drop (suc i) values))
  here = from_here slots values i name (omega (arith, l, length-map values name_of)) is

  pub name_unknown : takes slots name ≡ false → unknown slots (drop i values) ≡ Some name
  name_unknown e = here ∙ rw e refl

  pub name_known : takes slots name ≡ true → unknown slots (drop (i + 1) values) ≡ unknown slots (drop i values)
  name_known e = rw add-one (sym (here ∙ rw e refl))
