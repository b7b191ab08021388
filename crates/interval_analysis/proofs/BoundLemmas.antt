-- The bound of a plan, summed up in the order of its methods.
use Rattle.std.proofs.Common.{◌≡◌, ◌≢◌, ℕ, suc, zero, ◌+◌, ◌<◌, ◌≤◌, List, [], ◌∷◌, length, get_or, set, take, drop, map, Some, inl, inr, refl, sym, ap, ◌∙◌, subst, arith}
use Rattle.std.specs.Prelude.{All, Contains, min, max, slice_get, slice_index}
use Rattle.std.specs.Option.{option_map, option_map_or}
use Rattle.std.proofs.lemmas.Bool.{cases_eq}
use Rattle.std.proofs.lemmas.List.{get_or-set_same, get_or-set_other, length-set, length-map, take_more, drop_all}
use Rattle.std.proofs.lemmas.List.Elements.{All-head, All-tail, Contains-push_cases}
use Rattle.pap_tree.specs.declared.plan.Method.{Method}
use Rattle.pap_tree.specs.declared.plan.Stmt.{Stmt, Eval, If', Execute}
use Rattle.pap_tree.specs.Flowchart.{Body, done, eval, branch, execute, body_of, stmt_then, Routine, routine_of, Flowchart}
use Rattle.pap_tree.proofs.Laws.{stmt_at}
use Rattle.pap_types.specs.Bounds.{term_bound, body_bound, method_bound}
use Rattle.pap_types.specs.Checks.{IsWellTyped}
use Rattle.pap_types.specs.Counts.{IsWithinCounts, AreSmallTerms}
use Rattle.pap_types.specs.Limits.{longest_chain}
use Rattle.pap_types.specs.Meaning.{bound_of}
use Rattle.pap_types.specs.Routines.{method_names}
use Rattle.pap_types.specs.Scopes.{number_of}
use Rattle.call_order.specs.Executed.{EachExecuted, StandsIn}
use Rattle.call_order.specs.Graphs.{content_of}
use Rattle.call_order.specs.Orders.{IsOrdered}
use Rattle.call_order.proofs.Laws.{chains_close, bound_small, calls_stand}
use Rattle.interval_analysis.specs.private.BoundViews.{last_sum, bound_at, stopped_bound, AreBounds}
use Rattle.interval_analysis.proofs.MethodLemmas.{body_by}

-- ---- sums that stop

sums_stop : (s a a' b b' : ℕ) → min a s ≡ min a' s → min b s ≡ min b' s → min (a + b) s ≡ min (a' + b') s
sums_stop s a a' b b' e f = omega arith

greater_stops : (s a a' b b' : ℕ) → min a s ≡ min a' s → min b s ≡ min b' s → min (max a b) s ≡ min (max a' b') s
greater_stops s a a' b b' e f = omega arith

same_stops : (s a b : ℕ) → a ≡ min b s → min a s ≡ min b s
same_stops s a b e = omega arith

-- the bound of a list, where those of the methods that it executes stop
stops : (s : ℕ) (f h : List ℕ → ℕ) (b : Body) → EachExecuted (λ x. f x ≡ min (h x) s) b → min (body_bound f b) s ≡ min (body_bound h b) s
stops s f h done k = refl
stops s f h (eval x e rest) k = sums_stop s (term_bound e + 1) (term_bound e + 1) (body_bound f rest) (body_bound h rest) refl (stops s f h rest k)
stops s f h (branch t a b rest) k =
    let first = sums_stop s (body_bound f a) (body_bound h a) 1 1 (stops s f h a k.0) refl in
    let larger = greater_stops s (body_bound f a + 1) (body_bound h a + 1) (body_bound f b) (body_bound h b) first (stops s f h b k.1) in
    let here = sums_stop s (term_bound t + 1) (term_bound t + 1) (max (body_bound f a + 1) (body_bound f b)) (max (body_bound h a + 1) (body_bound h b)) refl larger in
    sums_stop s (term_bound t + 1 + max (body_bound f a + 1) (body_bound f b)) (term_bound t + 1 + max (body_bound h a + 1) (body_bound h b)) (body_bound f rest) (body_bound h rest) here (stops s f h rest k.2)
stops s f h (execute m rest) k =
    let here = sums_stop s (f m) (h m) 2 2 (same_stops s (f m) (h m) k.0) refl in
    sums_stop s (f m + 2) (h m + 2) (body_bound f rest) (body_bound h rest) here (stops s f h rest k.1)

-- ---- statements one after the other

bound_then : (call : List ℕ → ℕ) (s : Stmt) (rest : Body) → body_bound call (stmt_then s rest) ≡ body_bound call (stmt_then s done) + body_bound call rest
bound_then call (Eval x e) rest = omega arith
bound_then call (If' t m ys n zs) rest = omega arith
bound_then call (Execute x) rest = omega arith

pub bound_there : (call : List ℕ → ℕ) (ss : List Stmt) (i : ℕ) (s : Stmt) → s ≡ get_or ss i s → i < length ss → body_bound call (body_of (drop i ss)) ≡ body_bound call (stmt_then s done) + body_bound call (body_of (drop (i + 1) ss))
bound_there call ss i s is lt = ap (body_bound call) (stmt_at ss i s is lt) ∙ bound_then call s (body_of (drop (i + 1) ss))

pub small_here : (s : Stmt) (rest : Body) → AreSmallTerms (stmt_then s rest) → AreSmallTerms (stmt_then s done)
small_here (Eval x e) rest h = (h.0, tt)
small_here (If' t m ys n zs) rest h = (h.0, h.1, h.2, tt)
small_here (Execute x) rest h = tt

pub small_rest : (s : Stmt) (rest : Body) → AreSmallTerms (stmt_then s rest) → AreSmallTerms rest
small_rest (Eval x e) rest h = h.1
small_rest (If' t m ys n zs) rest h = h.3
small_rest (Execute x) rest h = h

module _ (call : List ℕ → ℕ) (ss : List Stmt) where
  -- one more statement
  pub sum_more : (whole bound v next i : ℕ) (s : Stmt) → s ≡ get_or ss i s → i < length ss → v ≡ min (body_bound call (stmt_then s done)) last_sum → next ≡ min (bound + v) last_sum → min (bound + body_bound call (body_of (drop i ss))) last_sum ≡ whole → min (next + body_bound call (body_of (drop (i + 1) ss))) last_sum ≡ whole
  sum_more whole bound v next i s is lt one more before =
      by_parts last_sum (body_bound call (stmt_then s done)) (body_bound call (body_of (drop (i + 1) ss))) (body_bound call (body_of (drop i ss))) one more before (bound_there call ss i s is lt)
    where
      by_parts : (last a r d : ℕ) → v ≡ min a last → next ≡ min (bound + v) last → min (bound + d) last ≡ whole → d ≡ a + r → min (next + r) last ≡ whole
      by_parts last a r d one more before is = omega arith

  -- all of them
  pub sum_all : (whole bound i : ℕ) → length ss ≤ i → bound ≤ last_sum → min (bound + body_bound call (body_of (drop i ss))) last_sum ≡ whole → bound ≡ whole
  sum_all whole bound i past fits e =
      let none : body_bound call (body_of (drop i ss)) ≡ 0 = ap (λ l. body_bound call (body_of l)) (drop_all i ss past) in
      at_end last_sum (body_bound call (body_of (drop i ss))) none fits e
    where
      at_end : (last r : ℕ) → r ≡ 0 → bound ≤ last → min (bound + r) last ≡ whole → bound ≡ whole
      at_end last r none fits e = omega arith

-- the sums of an IF
pub if_sum : (a b t x y z r : ℕ) → x ≡ min a last_sum → y ≡ min (x + 1) last_sum → z ≡ min b last_sum → r ≡ min (max y z + (t + 1)) last_sum → r ≡ min (t + 1 + max (a + 1) b + 0) last_sum
if_sum a b t x y z r = with_last last_sum
  where
    with_last : (last : ℕ) → x ≡ min a last → y ≡ min (x + 1) last → z ≡ min b last → r ≡ min (max y z + (t + 1)) last → r ≡ min (t + 1 + max (a + 1) b + 0) last
    with_last last e f g h = omega arith

-- ---- methods in their order

each_so : (P Q : List ℕ → Type 0) → ((x : List ℕ) → P x → Q x) → (b : Body) → EachExecuted P b → EachExecuted Q b
each_so P Q go done h = tt
each_so P Q go (eval x e rest) h = each_so P Q go rest h
each_so P Q go (branch t a b rest) h = (each_so P Q go a h.0, each_so P Q go b h.1, each_so P Q go rest h.2)
each_so P Q go (execute m rest) h = (go m h.0, each_so P Q go rest h.1)

module _ (f : Flowchart) (order : List ℕ) (typed : IsWellTyped f) (h : IsOrdered f order) where
  -- a list of statements that executes methods whose bounds are known
  known : (numbers bounds : List ℕ) (b : Body) → AreBounds f numbers bounds → EachExecuted (StandsIn f numbers) b → stopped_bound f bounds b ≡ min (body_bound (method_bound f.methods longest_chain) b) last_sum
  known numbers bounds b k all =
      stops last_sum (bound_at f bounds) (method_bound f.methods longest_chain) b
      (each_so (StandsIn f numbers) (λ x. bound_at f bounds x ≡ min (method_bound f.methods longest_chain x) last_sum) (λ x s. ap (λ o. option_map_or (slice_index bounds) o 0) s.1 ∙ k.each x s.0 s.1 s.2) b all)

  pub number_known : (k : ℕ) → k < length order → slice_index order k < length f.methods
  number_known k lt = subst (λ n. slice_index order k < n) (length-map f.methods (λ m. content_of f.methods m.body)) (h.ordered.known k 0 lt)

  pub bounds_more : (k v : ℕ) (bounds next : List ℕ) (m : Routine) → AreBounds f (take k order) bounds → k < length order → slice_get f.methods (slice_index order k) ≡ Some m → v ≡ stopped_bound f bounds m.body → next ≡ set bounds (slice_index order k) v → AreBounds f (take (k + 1) order) next
  bounds_more k v bounds next m b lt at is put = record {
    all = ap length put ∙ length-set bounds j v ∙ b.all;
    each = λ x i number c. elim (cases_eq i j) [
      | inl same ↦ ap (λ l. get_or l i 0) put ∙ ap (λ y. get_or (set bounds j v) y 0) same ∙ get_or-set_same bounds j v 0 inside ∙ value ∙ ap (λ n. min n last_sum) (sym (by_body x (subst (λ y. number_of (method_names f.methods) x ≡ Some y) same number)))
      | inr other ↦ ap (λ l. get_or l i 0) put ∙ get_or-set_other bounds j i v 0 other ∙ b.each x i number (earlier i c other)
    ];
  }
    where
      j : ℕ
      j = slice_index order k

      inside : slice_index order k < length bounds
      inside = (let n = number_known k lt in omega (arith, n, b.all))

      value : v ≡ min (body_bound (method_bound f.methods longest_chain) m.body) last_sum
      value = is ∙ known (take k order) bounds m.body b ((calls_stand f order typed h).before k lt m at)

      by_body : (x : List ℕ) → number_of (method_names f.methods) x ≡ Some (slice_index order k) → method_bound f.methods longest_chain x ≡ body_bound (method_bound f.methods longest_chain) m.body
      by_body x number = (chains_close f typed h.chains).bound x m.body (sym (body_by f.methods x (slice_index order k) number) ∙ ap (option_map (λ m. m.body)) at)

      earlier : (i : ℕ) → Contains (take (k + 1) order) i → i ≢ slice_index order k → Contains (take k order) i
      earlier i c other = elim (Contains-push_cases (take k order) (get_or order k 0) i (subst (λ l. Contains l i) (take_more order k 0 lt) c)) [
        | inl before ↦ before
        | inr same ↦ absurd (other (sym same))
      ]

  -- ---- MAIN

  pub main_bound : (bounds : List ℕ) (bound : ℕ) → IsWithinCounts f → AreBounds f order bounds → bound ≡ stopped_bound f bounds f.main → bound + 1 ≡ bound_of f
  main_bound bounds bound counts b is =
      let small = bound_small f order counts h in
      let whole = known order bounds f.main b (calls_stand f order typed h).main in
      omega (arith, is, whole, small)

  pub main_fits : (bounds : List ℕ) (bound : ℕ) → IsWithinCounts f → AreBounds f order bounds → bound ≡ stopped_bound f bounds f.main → bound + 1 ≤ 1000000000
  main_fits bounds bound counts b is = subst (λ n. n ≤ 1000000000) (sym (main_bound bounds bound counts b is)) (bound_small f order counts h)

-- the method of a number
pub method_there : (ms : List Method) (i : ℕ) (m : Method) → m ≡ get_or ms i m → i < length ms → slice_get (map routine_of ms) i ≡ Some (routine_of m)
method_there [] i m is lt = absurd (omega arith)
method_there (x ∷ ms) zero m is lt = ap (λ y. Some (routine_of y)) (sym is)
method_there (x ∷ ms) (suc i) m is lt = method_there ms i m is (omega arith)

pub small_there : (ms : List Method) (i : ℕ) (m : Method) → m ≡ get_or ms i m → i < length ms → All (λ m. AreSmallTerms m.body) (map routine_of ms) → AreSmallTerms (body_of m.body.items)
small_there [] i m is lt all = absurd (omega arith)
small_there (x ∷ ms) zero m is lt all = subst (λ y. AreSmallTerms (body_of y.body.items)) (sym is) (All-head (λ m. AreSmallTerms m.body) (routine_of x) (map routine_of ms) all)
small_there (x ∷ ms) (suc i) m is lt all = small_there ms i m is (omega arith) (All-tail (λ m. AreSmallTerms m.body) (routine_of x) (map routine_of ms) all)
