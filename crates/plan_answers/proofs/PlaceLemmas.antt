-- Statements by their numbers, and methods by their names.
use Rattle.std.proofs.Common.{◌≡◌, ℕ, zero, suc, ◌+◌, ◌-◌, ◌<◌, ◌≤◌, true, false, cond, List, [], ◌∷◌, length, drop, get_or, map, refl, sym, ap, ◌∙◌, subst, arith, Vec, Global}
use Rattle.std.specs.Prelude.{Option, Some, None, if◌then◌else◌, option_map}
use Rattle.std.specs.List.{find}
use Rattle.std.specs.Str.{bytes_eq}
use Rattle.std.proofs.lemmas.Bool.Decides.{nat_tests}
use Rattle.pap_tree.specs.declared.expression.Expr.{Expr}
use Rattle.pap_tree.specs.declared.plan.Stmt.{Stmt, Eval, If, If', Execute}
use Rattle.pap_tree.specs.declared.plan.Method.{Method}
use Rattle.pap_tree.specs.declared.plan.PlanText.{PlanText}
use Rattle.pap_tree.specs.Term.{Term, term_of}
use Rattle.pap_tree.specs.Flowchart.{Body, done, eval, branch, execute, body_of, stmt_then, routine_of, flowchart_of}
use Rattle.pap_tree.specs.Statements.{written, term_at}
use Rattle.pap_tree.proofs.Laws.{stmt_at, stmt_then-If}
use Rattle.pap_types.specs.Routines.{body_named}
use Rattle.pap_tree.specs.Names.{main_name}
use Rattle.plan_answers.specs.Refusals.{body_in}
use Rattle.plan_answers.specs.declared.places.Search.{Search}
use Rattle.plan_answers.specs.declared.places.Search.TheVariants.{Found, Executes, Left}
use Rattle.plan_answers.specs.private.PlaceViews.{IsThere, GoesOn, IsSearched, IsSearchedIn}

-- no statement has a number behind those of all
pub term_past : (b : Body) (n : ℕ) → written b ≤ n → term_at b n ≡ None
term_past done n h = refl
term_past (eval x e rest) n h = grind (arith, nat_tests, term_past rest (n - 1))
term_past (branch t a b rest) n h = grind (arith, nat_tests, term_past rest (n - 1 - (written a + written b)))
term_past (execute m rest) n h = grind (arith, nat_tests, term_past rest (n - 1))

pub searched_past : (b : Body) (n left : ℕ) → n ≡ left + written b → term_at b n ≡ None
searched_past b n left h = term_past b n (omega arith)

-- ---- one statement

module _ (t : Term) (a b : Body) where
  branch_here : (n : ℕ) → n ≡ 0 → (rest : Body) → IsThere (branch t a b rest) n (Some t)
  branch_here n h rest = record { within = omega arith; is = grind (arith, nat_tests) }

  branch_first : (n k : ℕ) (o : Option Term) → n ≡ k + 1 → IsThere a k o → (rest : Body) → IsThere (branch t a b rest) n o
  branch_first n k o h there rest =
      let less : n - 1 ≡ k = omega arith in
      let within = there.within in
      let is = there.is in
      record { within = omega arith; is = at less within is }
    where
      at : n - 1 ≡ k → k < written a → term_at a k ≡ o → term_at (branch t a b rest) n ≡ o
      at less within is = grind (arith, nat_tests)

  branch_second : (n k left : ℕ) (o : Option Term) → n ≡ k + 1 → k ≡ left + written a → IsThere b left o → (rest : Body) → IsThere (branch t a b rest) n o
  branch_second n k left o h j there rest =
      let within = there.within in
      let is = there.is in
      let back : n - 1 - written a ≡ left = omega arith in
      record { within = omega arith; is = at back within is }
    where
      at : n - 1 - written a ≡ left → left < written b → term_at b left ≡ o → term_at (branch t a b rest) n ≡ o
      at back within is = grind (arith, nat_tests)

  branch_on : (n k left last : ℕ) → n ≡ k + 1 → k ≡ left + written a → left ≡ last + written b → (rest : Body) → GoesOn (branch t a b rest) rest n last
  branch_on n k left last h j i rest =
      let back : n - 1 - (written a + written b) ≡ last = omega arith in
      record { same = at back; counted = omega arith }
    where
      at : n - 1 - (written a + written b) ≡ last → term_at (branch t a b rest) n ≡ term_at rest last
      at back = grind (arith, nat_tests)

-- ---- a branch of the program

module _ (s : Stmt) (t : Expr) (a b : List Stmt) (is : (rest : Body) → stmt_then s rest ≡ branch (term_of t) (body_of a) (body_of b) rest) where
  there : (n : ℕ) (o : Option Term) → ((rest : Body) → IsThere (branch (term_of t) (body_of a) (body_of b) rest) n o) → (rest : Body) → IsThere (stmt_then s rest) n o
  there n o h rest = subst (λ x. IsThere x n o) (sym (is rest)) (h rest)

  -- the test
  pub test_here : (n : ℕ) → n ≡ 0 → (rest : Body) → IsThere (stmt_then s rest) n (Some (term_of t))
  test_here n h = there n (Some (term_of t)) (branch_here (term_of t) (body_of a) (body_of b) n h)

  -- a statement of the first list
  pub in_first : (n k : ℕ) (r : Search) → n ≡ k + 1 → ((left : ℕ) → r ≡ Left left → ⊥) → IsSearched (body_of a) k r → IsSearchedIn s n r
  in_first n k (Found e) h not found = there n (Some (term_of e.now)) (branch_first (term_of t) (body_of a) (body_of b) n k (Some (term_of e.now)) h found)
  in_first n k Executes h not found = there n None (branch_first (term_of t) (body_of a) (body_of b) n k None h found)
  in_first n k (Left left) h not found = absurd (not left refl)

  -- one of the second list, or none of both
  pub in_second : (n k left : ℕ) (r : Search) → n ≡ k + 1 → k ≡ left + written (body_of a) → IsSearched (body_of b) left r → IsSearchedIn s n r
  in_second n k left (Found e) h j found = there n (Some (term_of e.now)) (branch_second (term_of t) (body_of a) (body_of b) n k left (Some (term_of e.now)) h j found)
  in_second n k left Executes h j found = there n None (branch_second (term_of t) (body_of a) (body_of b) n k left None h j found)
  in_second n k left (Left last) h j i = λ rest. subst (λ x. GoesOn x rest n last) (sym (is rest)) (branch_on (term_of t) (body_of a) (body_of b) n k left last h j i rest)

-- ---- a list of statements

pub goes_then : (a b c : Body) (n m k : ℕ) → GoesOn a b n m → GoesOn b c m k → GoesOn a c n k
goes_then a b c n m k h j = record { same = h.same ∙ j.same; counted = omega (arith, h.counted, j.counted) }

goes_there : (a b : Body) (n m : ℕ) (o : Option Term) → GoesOn a b n m → IsThere b m o → IsThere a n o
goes_there a b n m o h j = record { within = omega (arith, h.counted, j.within); is = h.same ∙ j.is }

-- where a search of a statement found, that of the list has found
pub goes_found : (a rest : Body) (s : Stmt) (n m : ℕ) (r : Search) → ((left : ℕ) → r ≡ Left left → ⊥) → GoesOn a (stmt_then s rest) n m → IsSearchedIn s m r → IsSearched a n r
goes_found a rest s n m (Found e) not h found = goes_there a (stmt_then s rest) n m (Some (term_of e.now)) h (found rest)
goes_found a rest s n m Executes not h found = goes_there a (stmt_then s rest) n m None h (found rest)
goes_found a rest s n m (Left left) not h found = absurd (not left refl)

-- ---- how many statements there are

written-then : (s : Stmt) (rest : Body) → written (stmt_then s rest) ≡ written (stmt_then s done) + written rest
written-then (Eval x e) rest = omega arith
written-then (If' t m ys n zs) rest = omega arith
written-then (Execute x) rest = omega arith

pub written_at : (ss : List Stmt) (i : ℕ) (s : Stmt) → s ≡ get_or ss i s → i < length ss → written (body_of (drop i ss)) ≡ written (stmt_then s done) + written (body_of (drop (i + 1) ss))
written_at ss i s is lt = ap written (stmt_at ss i s is lt) ∙ written-then s (body_of (drop (i + 1) ss))

-- a part of a list has no more statements
pub written_part : (ss : List Stmt) (i : ℕ) → written (body_of (drop i ss)) ≤ written (body_of ss)
written_part [] zero = omega arith
written_part [] (suc i) = omega arith
written_part (s ∷ ss) zero = omega arith
written_part (s ∷ ss) (suc i) = omega (arith, written_part ss i, written-then s (body_of ss))

pub written_if : (s : Stmt) (t : Expr) (ys zs : Vec Stmt Global) → s ≡ If t ys zs → written (stmt_then s done) ≡ 1 + written (body_of ys.items) + written (body_of zs.items)
written_if s t ys zs is = ap (λ x. written (stmt_then x done)) is ∙ ap written (stmt_then-If t ys zs done) ∙ omega arith

-- ---- methods

-- the body of the method that a search by name finds
pub named_find : (x : List ℕ) (ms : List Method) →
    body_named (map routine_of ms) x ≡
    option_map (λ (m : Method). body_of m.body.items) (find (λ (m : Method). bytes_eq x m.name) ms)
named_find x [] = refl
named_find x (m ∷ ms) = elim (bytes_eq x m.name) as (λ b.
    (if b then Some (body_of m.body.items) else body_named (map routine_of ms) x) ≡
    option_map (λ (q : Method). body_of q.body.items)
    (cond b (Some m) (find (λ (q : Method). bytes_eq x q.name) ms))) [
      | true ↦ refl
      | false ↦ named_find x ms
    ]

-- a name other than MAIN's has the body of the method that is found
pub body_other : (p : PlanText) (x main : List ℕ) (ms : List Method) (found : Option Method) →
    main ≡ main_name → bytes_eq x main ≡ false → ms ≡ p.methods.items →
    found ≡ find (λ (m : Method). bytes_eq x m.name) ms →
    body_in (flowchart_of p) x ≡ option_map (λ (m : Method). body_of m.body.items) found
body_other p x main ms found is_main other methods is =
    let f = flowchart_of p in
    ap (λ t. if t then Some f.main else body_named f.methods x) (subst (λ n. bytes_eq x n ≡ false) is_main other)
    ∙ ap (λ (l : List Method). body_named (map routine_of l) x) (sym methods)
    ∙ named_find x ms
    ∙ ap (option_map (λ (m : Method). body_of m.body.items)) (sym is)
