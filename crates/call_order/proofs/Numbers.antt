-- The numbers of methods and their bodies.
use Rattle.std.proofs.Common.{◌≡◌, ℕ, suc, ◌+◌, ◌<◌, ◌⊎◌, inl, inr, Bool, true, false, cond, List, [], ◌∷◌, length, Option, Some, None, ap, ◌∙◌, refl, sym, subst, arith}
use Rattle.std.specs.Prelude.{if◌then◌else◌, nat_lt, not}
use Rattle.std.specs.Option.{option_map, option_map_or}
use Rattle.std.specs.Str.{bytes_eq}
use Rattle.std.specs.List.{position_or_len}
use Rattle.std.proofs.lemmas.Bool.{cases_lt}
use Rattle.std.proofs.lemmas.Bool.Decides.{nat_tests}
use Rattle.pap_tree.specs.Flowchart.{Body, Routine}
use Rattle.pap_types.specs.Routines.{body_named, method_names}
use Rattle.pap_types.specs.Scopes.{number_of}
use Rattle.call_order.specs.Graphs.{Content, content_of, graph_within}
use Rattle.call_order.specs.Chains.{content_at}

-- the number of the method of a name
abbrev pub method_number : List Routine → List ℕ → Option ℕ
method_number ms x = number_of (method_names ms) x

next_place : (same : Bool) (at n : ℕ) → cond (nat_lt (cond (not same) (1 + at) 0) (suc n)) (Some (cond (not same) (1 + at) 0)) None ≡ (if same then Some 0 else option_map suc (cond (nat_lt at n) (Some at) None))
next_place true at n = let t : nat_lt 0 (suc n) ≡ true = grind (arith, nat_tests) in rw t refl
next_place false at n =
    elim (cases_lt at n) [
      | inl less ↦ (let t : nat_lt at n ≡ true = grind (arith, nat_tests) in
          let s : nat_lt (1 + at) (suc n) ≡ true = grind (arith, nat_tests) in
          let more : 1 + at ≡ suc at = omega arith in
          rw (s, t) (ap Some more))
      | inr past ↦ (let t : nat_lt at n ≡ false = grind (arith, nat_tests) in
          let s : nat_lt (1 + at) (suc n) ≡ false = grind (arith, nat_tests) in
          rw (s, t) refl)
    ]

number-cons : (m : Routine) (ms : List Routine) (x : List ℕ) → method_number (m ∷ ms) x ≡ (if bytes_eq x m.name then Some 0 else option_map suc (method_number ms x))
number-cons m ms x = next_place (bytes_eq x m.name) (position_or_len (bytes_eq x) (method_names ms)) (length (method_names ms))

-- the method of a name: its number, its body, and what it has in the graph
pub record IsMethod (ms : List Routine) (x : List ℕ) (i : ℕ) (b : Body) : Type 0 where
  pub named : body_named ms x ≡ Some b
  pub numbered : method_number ms x ≡ Some i
  pub below : i < length ms
  pub has : (all : List Routine) → content_at (graph_within all ms) i ≡ content_of all b

pub record IsNoMethod (ms : List Routine) (x : List ℕ) : Type 0 where
  pub named : body_named ms x ≡ None
  pub numbered : method_number ms x ≡ None

abbrev pub Found : List Routine → List ℕ → Type 0
Found ms x = IsNoMethod ms x ⊎ ((i : ℕ) × (b : Body) × IsMethod ms x i b)

-- a name names a method with a number, or none
pub found : (ms : List Routine) (x : List ℕ) → Found ms x
found [] x = inl (record { named = refl; numbered = refl })
found (m ∷ ms) x = by_test (bytes_eq x m.name) refl (found ms x)
  where
    by_test : (t : Bool) → bytes_eq x m.name ≡ t → Found ms x → Found (m ∷ ms) x
    by_test true e f = inr (
      0,
      m.body,
      record {
        named = ap (λ t. if t then Some m.body else body_named ms x) e;
        numbered = number-cons m ms x ∙ ap (λ t. if t then Some 0 else option_map suc (method_number ms x)) e;
        below = omega arith;
        has = λ all. refl;
      },
    )
    by_test false e (inl f) = inl (record {
      named = ap (λ t. if t then Some m.body else body_named ms x) e ∙ f.named;
      numbered = number-cons m ms x ∙ ap (λ t. if t then Some 0 else option_map suc (method_number ms x)) e ∙ ap (option_map suc) f.numbered;
    })
    by_test false e (inr f) = inr (
      suc f.0,
      f.1,
      record {
        named = ap (λ t. if t then Some m.body else body_named ms x) e ∙ f.2.named;
        numbered = number-cons m ms x ∙ ap (λ t. if t then Some 0 else option_map suc (method_number ms x)) e ∙ ap (option_map suc) f.2.numbered;
        below = let h = f.2.below in omega (arith, h);
        has = λ all. f.2.has all;
      },
    )

module _ (ms : List Routine) (x : List ℕ) where
  -- a name that has a body has a number
  pub method_of : (b : Body) → body_named ms x ≡ Some b → (i : ℕ) × IsMethod ms x i b
  method_of b e = elim (found ms x) [
    | inl f ↦ (let g = f.named in absurd (cc))
    | inr f ↦ (f.0, subst (IsMethod ms x f.0) (let g = f.2.named in cc) f.2)
  ]

  -- a name that has a number has a body
  pub method_at : (i : ℕ) → method_number ms x ≡ Some i → (b : Body) × IsMethod ms x i b
  method_at i e = elim (found ms x) [
    | inl f ↦ (let g = f.numbered in absurd (cc))
    | inr f ↦ (f.1, subst (λ k. IsMethod ms x k f.1) (let g = f.2.numbered in cc) f.2)
  ]

  pub number_below : (i : ℕ) → method_number ms x ≡ Some i → i < length ms
  number_below i e = (method_at i e).1.below

  -- what goes by the body goes by the number
  pub by_number : (all : List Routine) (F : Body → ℕ) (G : Content → ℕ) → ((b : Body) → F b ≡ G (content_of all b)) → option_map_or F (body_named ms x) 0 ≡ option_map_or (λ i. G (content_at (graph_within all ms) i)) (method_number ms x) 0
  by_number all F G h = elim (found ms x) [
    | inl f ↦ ap (λ o. option_map_or F o 0) f.named ∙ sym (ap (λ o. option_map_or (λ i. G (content_at (graph_within all ms) i)) o 0) f.numbered)
    | inr f ↦ ap (λ o. option_map_or F o 0) f.2.named ∙ h f.1 ∙ ap G (sym (f.2.has all)) ∙ sym (ap (λ o. option_map_or (λ i. G (content_at (graph_within all ms) i)) o 0) f.2.numbered)
  ]
