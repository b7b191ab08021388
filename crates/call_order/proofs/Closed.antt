-- The bound on chains leaves nothing out.
use Rattle.std.proofs.Common.{◌≡◌, ℕ, zero, suc, ◌≤◌, true, List, [], ◌∷◌, ◌++◌, Option, Some, None, ap, ◌∙◌, refl, sym, subst, arith}
use Rattle.std.specs.Prelude.{Contains, is_some}
use Rattle.std.specs.Option.{option_and_then, option_map_or}
use Rattle.std.specs.List.{cons_option}
use Rattle.std.proofs.lemmas.List.Elements.{Contains-append_left, Contains-append_right}
use Rattle.pap_tree.specs.Flowchart.{Body, done, eval, branch, execute, Routine, Flowchart}
use Rattle.pap_types.specs.Scopes.{Scope, scope_of}
use Rattle.pap_types.specs.Values.{Env}
use Rattle.pap_types.specs.Routines.{body_named}
use Rattle.pap_types.specs.Runs.{after, spent, IsSafeBody, calls_of}
use Rattle.pap_types.specs.Bounds.{body_bound, method_bound}
use Rattle.pap_types.specs.Meaning.{calls_in}
use Rattle.pap_types.specs.Checks.{IsWellTyped}
use Rattle.call_order.specs.Graphs.{executed, content_of, graph_of}
use Rattle.call_order.specs.Chains.{Executes, BeginsMore, content_at}
use Rattle.call_order.specs.Expanded.{expanded, expanded_of}
use Rattle.call_order.specs.Orders.{HasShortChains}
use Rattle.call_order.specs.ChainLaws.{NamesBody, DoesAsBody, BodyDoesTheSame, IsSameBound, AreClosed}
use Rattle.call_order.proofs.Numbers.{method_number, method_of}
use Rattle.call_order.specs.Executed.{EachExecuted}
use Rattle.call_order.proofs.Executed.{each_weaker, IsNamed, AreNamed, are_named}
use Rattle.call_order.proofs.ChainLemmas.{begins-more}
use Rattle.call_order.proofs.Same.{map_or_same, expanded_same, bound_same, Same, turned, after_same, spent_same, safe_same}

named_some : (o : Option Body) → is_some o ≡ true → (b : Body) × (o ≡ Some b)
named_some None e = absurd (cc)
named_some (Some b) e = (b, refl)

contains_head : (x : ℕ) (xs : List ℕ) → Contains (x ∷ xs) x
contains_head x xs = (0, omega arith, refl)

-- what holds of each method that is executed, by number, holds of each executed name
pub by_numbers : (ms : List Routine) (Q : List ℕ → Type 0) (b : Body) → EachExecuted (IsNamed ms) b → ((y : List ℕ) (j : ℕ) → IsNamed ms y → method_number ms y ≡ Some j → Contains (executed ms b) j → Q y) → EachExecuted Q b
by_numbers ms Q done h f = tt
by_numbers ms Q (eval x e rest) h f = by_numbers ms Q rest h f
by_numbers ms Q (branch t a b rest) h f =
    let xs = executed ms a in
    let ys = executed ms b in
    let zs = executed ms rest in (
      by_numbers ms Q a h.0 (λ y j n is c. f y j n is (Contains-append_left xs (ys ++ zs) j c)),
      by_numbers ms Q b h.1 (λ y j n is c. f y j n is (Contains-append_right xs (ys ++ zs) j (Contains-append_left ys zs j c))),
      by_numbers ms Q rest h.2 (λ y j n is c. f y j n is (Contains-append_right xs (ys ++ zs) j (Contains-append_right ys zs j c))),
    )
by_numbers ms Q (execute m rest) h f =
    let b = named_some (body_named ms m) h.0 in
    let i = method_of ms m b.0 b.1 in
    let is : executed ms (execute m rest) ≡ i.0 ∷ executed ms rest = ap (λ o. cons_option o (executed ms rest)) i.1.numbered in (
      f m i.0 h.0 i.1.numbered (subst (λ l. Contains l i.0) (sym is) (contains_head i.0 (executed ms rest))),
      by_numbers ms Q rest h.1 (λ y j n e c. f y j n e (subst (λ l. Contains l j) (sym is) (let k = c.0 in (suc k, (let l = c.1 in omega (arith, l)), c.2)))),
    )

-- each chain that begins with the method ends after at most n
unfoldable pub Ends : List Routine → ℕ → List ℕ → Type 0
Ends ms zero x = ⊥
Ends ms (suc n) x = (b : Body) → body_named ms x ≡ Some b → EachExecuted (Ends ms n) b

module _ (ms : List Routine) (named : (x : List ℕ) (b : Body) → body_named ms x ≡ Some b → EachExecuted (IsNamed ms) b) where
  pub ends : (n : ℕ) (x : List ℕ) (i : ℕ) → method_number ms x ≡ Some i → (BeginsMore (graph_of ms) n i → ⊥) → Ends ms n x
  unfolding Ends
  ends zero x i is nb = absurd (nb ([], tt, omega arith))
  ends (suc n) x i is nb = λ b e. by_numbers ms (Ends ms n) b (named x b e) (λ y j nm at c. ends n y j at (λ more. nb (longer b e j c more)))
    where
      longer : (b : Body) → body_named ms x ≡ Some b → (j : ℕ) → Contains (executed ms b) j → BeginsMore (graph_of ms) n j → BeginsMore (graph_of ms) (suc n) i
      longer b e j c more =
          let m = method_of ms x b e in
          let same : m.0 ≡ i = let p = m.1.numbered in cc in
          let has : content_at (graph_of ms) i ≡ content_of ms b = subst (λ k. content_at (graph_of ms) k ≡ content_of ms b) same (m.1.has ms) in
          let ex : Executes (graph_of ms) i j = subst (λ q. Contains q.methods j) (sym has) c in
          let r = begins-more (graph_of ms) i j n ex more in
          (r.0, r.1, omega (arith, r.2))

-- What agrees at two bounds where it agrees of all that is executed, agrees of a method whose chains end.
stays : (ms : List Routine) (R : ℕ → ℕ → List ℕ → Type 0) → ((n k : ℕ) (x : List ℕ) → ((b : Body) → body_named ms x ≡ Some b → EachExecuted (R n k) b) → R (suc n) (suc k) x) → (n k : ℕ) (x : List ℕ) → Ends ms n x → n ≤ k → R n k x
unfolding Ends
stays ms R step zero k x e le = absurd e
stays ms R step (suc n) zero x e le = absurd (omega arith)
stays ms R step (suc n) (suc k) x e le =
    step n k x (λ b is. each_weaker (Ends ms n) (R n k) (λ y h. stays ms R step n k y h (omega arith)) b (e b is))

-- What holds of a method where it holds of all that it executes, holds of a method whose chains end.
all_down : (ms : List Routine) (P : List ℕ → Type 0) → ((x : List ℕ) → ((b : Body) → body_named ms x ≡ Some b → EachExecuted P b) → P x) → (n : ℕ) (x : List ℕ) → Ends ms n x → P x
unfolding Ends
all_down ms P step zero x e = absurd e
all_down ms P step (suc n) x e = step x (λ b is. each_weaker (Ends ms n) P (λ y h. all_down ms P step n y h) b (e b is))

module _ (scope : Scope) (ms : List Routine) where
  abbrev SameExpanded : ℕ → ℕ → List ℕ → Type 0
  SameExpanded n k x = expanded_of ms n x ≡ expanded_of ms k x

  more_expanded : (n k : ℕ) (x : List ℕ) → ((b : Body) → body_named ms x ≡ Some b → EachExecuted (SameExpanded n k) b) → SameExpanded (suc n) (suc k) x
  unfolding expanded_of
  more_expanded n k x h = map_or_same (body_named ms x) (expanded (expanded_of ms n)) (expanded (expanded_of ms k)) (λ b is. expanded_same (expanded_of ms n) (expanded_of ms k) b (h b is))

  abbrev SameBound : ℕ → ℕ → List ℕ → Type 0
  SameBound n k x = method_bound ms n x ≡ method_bound ms k x

  more_bound : (n k : ℕ) (x : List ℕ) → ((b : Body) → body_named ms x ≡ Some b → EachExecuted (SameBound n k) b) → SameBound (suc n) (suc k) x
  unfolding method_bound
  more_bound n k x h = map_or_same (body_named ms x) (body_bound (method_bound ms n)) (body_bound (method_bound ms k)) (λ b is. bound_same (method_bound ms n) (method_bound ms k) b (h b is))

  abbrev SameCalls : ℕ → ℕ → List ℕ → Type 0
  SameCalls n k x = Same scope (calls_of scope ms n) (calls_of scope ms k) x

  more_calls : (n k : ℕ) (x : List ℕ) → ((b : Body) → body_named ms x ≡ Some b → EachExecuted (SameCalls n k) b) → SameCalls (suc n) (suc k) x
  unfolding calls_of
  more_calls n k x h = λ env.
      let c = calls_of scope ms n in
      let d = calls_of scope ms k in
      let back : (b : Body) → body_named ms x ≡ Some b → EachExecuted (Same scope d c) b =
      λ (b : Body) (is : body_named ms x ≡ Some b). each_weaker (Same scope c d) (Same scope d c) (turned scope c d) b (h b is) in
      record {
        after = by_body (body_named ms x) (λ b. after scope c b env) (λ b. after scope d b env) (λ b is. after_same scope c d b (h b is) env);
        spent = map_or_same (body_named ms x) (λ b. spent scope c b env) (λ b. spent scope d b env) (λ b is. spent_same scope c d b (h b is) env);
        safe_in = λ s b is. safe_same scope c d b (h b is) env (s b is);
        safe_out = λ s b is. safe_same scope d c b (back b is) env (s b is);
      }
    where
      by_body : (o : Option Body) (f g : Body → Option Env) → ((b : Body) → o ≡ Some b → f b ≡ g b) → option_and_then f o ≡ option_and_then g o
      by_body None f g p = refl
      by_body (Some b) f g p = p b refl

  -- what stands one bound below
  expanded_step : (n : ℕ) (x : List ℕ) (b : Body) → body_named ms x ≡ Some b → expanded_of ms (suc n) x ≡ expanded (expanded_of ms n) b
  unfolding expanded_of
  expanded_step n x b is = ap (λ o. option_map_or (expanded (expanded_of ms n)) o 0) is

  bound_step : (n : ℕ) (x : List ℕ) (b : Body) → body_named ms x ≡ Some b → method_bound ms (suc n) x ≡ body_bound (method_bound ms n) b
  unfolding method_bound
  bound_step n x b is = ap (λ o. option_map_or (body_bound (method_bound ms n)) o 0) is

  after_step : (n : ℕ) (x : List ℕ) (b : Body) → body_named ms x ≡ Some b → (env : Env) → (calls_of scope ms (suc n)).after x env ≡ after scope (calls_of scope ms n) b env
  unfolding calls_of
  after_step n x b is env = ap (λ o. option_and_then (λ b. after scope (calls_of scope ms n) b env) o) is

  spent_step : (n : ℕ) (x : List ℕ) (b : Body) → body_named ms x ≡ Some b → (env : Env) → (calls_of scope ms (suc n)).spent x env ≡ spent scope (calls_of scope ms n) b env
  unfolding calls_of
  spent_step n x b is env = ap (λ o. option_map_or (λ b. spent scope (calls_of scope ms n) b env) o 0) is

  safe_step_in : (n : ℕ) (x : List ℕ) (b : Body) → body_named ms x ≡ Some b → (env : Env) → (calls_of scope ms (suc n)).IsSafeCall x env → IsSafeBody scope (calls_of scope ms n) b env
  unfolding calls_of
  safe_step_in n x b is env s = s b is

  safe_step_out : (n : ℕ) (x : List ℕ) (b : Body) → body_named ms x ≡ Some b → (env : Env) → IsSafeBody scope (calls_of scope ms n) b env → (calls_of scope ms (suc n)).IsSafeCall x env
  unfolding calls_of
  safe_step_out n x b is env s = λ c e. let same : b ≡ c = cc in subst (λ y. IsSafeBody scope (calls_of scope ms n) y env) same s

module _ (f : Flowchart) (typed : IsWellTyped f) (short : HasShortChains f) where
  scope : Scope
  scope = scope_of f

  names : AreNamed f
  names = are_named f typed

  pub all_end : (x : List ℕ) (b : Body) → body_named f.methods x ≡ Some b → Ends f.methods 64 x
  all_end x b is =
      let m = method_of f.methods x b is in
      ends f.methods names.methods 64 x m.0 m.1.numbered (short m.0 m.1.below)

  all_end_in : (b : Body) → EachExecuted (IsNamed f.methods) b → EachExecuted (Ends f.methods 64) b
  all_end_in b h = each_weaker (IsNamed f.methods) (Ends f.methods 64) (λ y n. let k = named_some (body_named f.methods y) n in all_end y k.0 k.1) b h

  same_expanded : (n : ℕ) → 64 ≤ n → (x : List ℕ) → Ends f.methods 64 x → expanded_of f.methods 64 x ≡ expanded_of f.methods n x
  same_expanded n le x e = stays f.methods (SameExpanded (scope_of f) f.methods) (more_expanded (scope_of f) f.methods) 64 n x e le

  same_bound : (n : ℕ) → 64 ≤ n → (x : List ℕ) → Ends f.methods 64 x → method_bound f.methods 64 x ≡ method_bound f.methods n x
  same_bound n le x e = stays f.methods (SameBound (scope_of f) f.methods) (more_bound (scope_of f) f.methods) 64 n x e le

  same_calls : (n : ℕ) → 64 ≤ n → (x : List ℕ) → Ends f.methods 64 x → Same (scope_of f) (calls_of (scope_of f) f.methods 64) (calls_of (scope_of f) f.methods n) x
  same_calls n le x e = stays f.methods (SameCalls (scope_of f) f.methods) (more_calls (scope_of f) f.methods) 64 n x e le

  does_as_body : (x : List ℕ) (b : Body) → NamesBody f x b → (env : Env) → DoesAsBody f x b env
  does_as_body x b is env =
      let h = same_calls 65 (omega arith) x (all_end x b is) env in
      record {
        after = h.after ∙ after_step (scope_of f) f.methods 64 x b is env;
        spent = h.spent ∙ spent_step (scope_of f) f.methods 64 x b is env;
        safe_in = λ s. safe_step_in (scope_of f) f.methods 64 x b is env (h.safe_in s);
        safe_out = λ s. h.safe_out (safe_step_out (scope_of f) f.methods 64 x b is env s);
      }

  main_does : (n : ℕ) → 64 ≤ n → (env : Env) → BodyDoesTheSame (scope_of f) (calls_of (scope_of f) f.methods n) (calls_in f) f.main env
  main_does n le env =
      let c = calls_of (scope_of f) f.methods n in
      let d = calls_in f in
      let out = each_weaker (Ends f.methods 64) (Same (scope_of f) d c) (λ x e. same_calls n le x e) f.main (all_end_in f.main names.main) in
      let back = each_weaker (Same (scope_of f) d c) (Same (scope_of f) c d) (turned (scope_of f) d c) f.main out in
      record {
        after = after_same (scope_of f) c d f.main back env;
        spent = spent_same (scope_of f) c d f.main back env;
        safe_in = safe_same (scope_of f) c d f.main back env;
        safe_out = safe_same (scope_of f) d c f.main out env;
      }

  longer : (n : ℕ) → 64 ≤ n → IsSameBound f n
  longer n le = record {
    does = λ x b is env. turned (scope_of f) (calls_in f) (calls_of (scope_of f) f.methods n) x (same_calls n le x (all_end x b is)) env;
    bound = λ x b is. sym (same_bound n le x (all_end x b is));
    expanded = λ x b is. sym (same_expanded n le x (all_end x b is));
    main_does = main_does n le;
    main_bound = bound_same (method_bound f.methods n) (method_bound f.methods 64) f.main (each_weaker (Ends f.methods 64) (λ x. method_bound f.methods n x ≡ method_bound f.methods 64 x) (λ x e. sym (same_bound n le x e)) f.main (all_end_in f.main names.main));
    main_expanded = expanded_same (expanded_of f.methods n) (expanded_of f.methods 64) f.main (each_weaker (Ends f.methods 64) (λ x. expanded_of f.methods n x ≡ expanded_of f.methods 64 x) (λ x e. sym (same_expanded n le x e)) f.main (all_end_in f.main names.main));
  }

  -- What holds of a method where it holds of all that it executes, holds of each method.
  pub by_execution : (P : List ℕ → Type 0) → ((x : List ℕ) (b : Body) → NamesBody f x b → EachExecuted P b → P x) → (x : List ℕ) (b : Body) → NamesBody f x b → P x
  by_execution P step x b is =
      all_down f.methods (λ y. (c : Body) → NamesBody f y c → P y) (λ y h c at. step y c at (named_down P c (h c at) (names.methods y c at))) 64 x (all_end x b is) b is
    where
      named_down : (P : List ℕ → Type 0) (c : Body) → EachExecuted (λ y. (d : Body) → NamesBody f y d → P y) c → EachExecuted (IsNamed f.methods) c → EachExecuted P c
      named_down P done h k = tt
      named_down P (eval y e rest) h k = named_down P rest h k
      named_down P (branch t a b rest) h k = (named_down P a h.0 k.0, named_down P b h.1 k.1, named_down P rest h.2 k.2)
      named_down P (execute m rest) h k = (let n = named_some (body_named f.methods m) k.0 in h.0 n.0 n.1, named_down P rest h.1 k.1)

  -- What agrees at two bounds on chains where it agrees of all that is executed, agrees at 64 and at any greater bound.
  pub by_bounds : (R : ℕ → ℕ → List ℕ → Type 0) → ((n k : ℕ) (x : List ℕ) → ((b : Body) → NamesBody f x b → EachExecuted (R n k) b) → R (suc n) (suc k) x) → (n : ℕ) → 64 ≤ n → (x : List ℕ) (b : Body) → NamesBody f x b → R 64 n x
  by_bounds R step n le x b is = stays f.methods R step 64 n x (all_end x b is) le

  pub chains_close : AreClosed f
  chains_close = record {
    does = does_as_body;
    bound = λ x b is. same_bound 65 (omega arith) x (all_end x b is) ∙ bound_step (scope_of f) f.methods 64 x b is;
    expanded = λ x b is. same_expanded 65 (omega arith) x (all_end x b is) ∙ expanded_step (scope_of f) f.methods 64 x b is;
    longer = longer;
  }
