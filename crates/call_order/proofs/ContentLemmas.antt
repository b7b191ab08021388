-- Lists of statements, taken apart.
use Rattle.std.proofs.Common.{◌≡◌, ℕ, zero, suc, ◌+◌, ◌<◌, ◌≤◌, List, [], ◌∷◌, ◌++◌, length, drop, get_or, ap, ◌∙◌, refl, sym, map, Vec, Global, Option, Some, None, arith, append_assoc}
use Rattle.std.specs.List.{cons_option}
use Rattle.std.proofs.lemmas.List.{append-nil}
use Rattle.pap_tree.specs.declared.expression.Expr.{Expr}
use Rattle.pap_tree.specs.declared.plan.Stmt.{Stmt, Eval, If, If', Execute}
use Rattle.pap_tree.specs.declared.plan.Method.{Method}
use Rattle.pap_tree.specs.Flowchart.{Body, done, body_of, stmt_then, Routine, routine_of, flowchart_of}
use Rattle.pap_tree.specs.declared.plan.PlanText.{PlanText}
use Rattle.pap_tree.specs.Statements.{written}
use Rattle.pap_tree.proofs.Laws.{stmt_then-If, stmt_at}
use Rattle.pap_types.specs.Scopes.{number_of}
use Rattle.pap_types.specs.Routines.{method_names}
use Rattle.pap_types.specs.Counts.{methods_written}
use Rattle.call_order.specs.Graphs.{executed, Content}
use Rattle.call_order.specs.private.ContentViews.{IsAdded}

written-then : (s : Stmt) (rest : Body) → written (stmt_then s rest) ≡ written (stmt_then s done) + written rest
written-then (Eval x e) rest = omega arith
written-then (If' t m ys n zs) rest = omega arith
written-then (Execute x) rest = omega arith

pub written_some : (s : Stmt) → 1 ≤ written (stmt_then s done)
written_some (Eval x e) = omega arith
written_some (If' t m ys n zs) = omega arith
written_some (Execute x) = omega arith

pub written_at : (ss : List Stmt) (i : ℕ) (s : Stmt) → s ≡ get_or ss i s → i < length ss → written (body_of (drop i ss)) ≡ written (stmt_then s done) + written (body_of (drop (i + 1) ss))
written_at ss i s is lt = ap written (stmt_at ss i s is lt) ∙ written-then s (body_of (drop (i + 1) ss))

pub written_if : (s : Stmt) (t : Expr) (ys zs : Vec Stmt Global) → s ≡ If t ys zs → written (stmt_then s done) ≡ 1 + written (body_of ys.items) + written (body_of zs.items)
written_if s t ys zs is = ap (λ x. written (stmt_then x done)) is ∙ ap written (stmt_then-If t ys zs done) ∙ omega arith

cons_option_append : (o : Option ℕ) (xs ys : List ℕ) → cons_option o (xs ++ ys) ≡ cons_option o xs ++ ys
cons_option_append None xs ys = refl
cons_option_append (Some x) xs ys = refl

module _ (ms : List Routine) where
  executed-then : (s : Stmt) (rest : Body) → executed ms (stmt_then s rest) ≡ executed ms (stmt_then s done) ++ executed ms rest
  executed-then (Eval x e) rest = refl
  executed-then (If' t m ys n zs) rest = simp (append_assoc, append-nil {A = ℕ})
  executed-then (Execute x) rest = cons_option_append (number_of (method_names ms) x) [] (executed ms rest)

  pub executed_at : (ss : List Stmt) (i : ℕ) (s : Stmt) → s ≡ get_or ss i s → i < length ss → executed ms (body_of (drop i ss)) ≡ executed ms (stmt_then s done) ++ executed ms (body_of (drop (i + 1) ss))
  executed_at ss i s is lt = ap (executed ms) (stmt_at ss i s is lt) ∙ executed-then s (body_of (drop (i + 1) ss))

  pub executed_if : (s : Stmt) (t : Expr) (ys zs : Vec Stmt Global) → s ≡ If t ys zs → executed ms (stmt_then s done) ≡ executed ms (body_of ys.items) ++ executed ms (body_of zs.items)
  executed_if s t ys zs is = ap (λ x. executed ms (stmt_then x done)) is ∙ ap (executed ms) (stmt_then-If t ys zs done) ∙ ap (λ l. executed ms (body_of ys.items) ++ l) (append-nil (executed ms (body_of zs.items)))

-- an IF is added by its own statement and its two branches
pub added_if : (p : PlanText) (s : Stmt) (t : Expr) (ys zs : Vec Stmt Global) (old counted one two : Content) → s ≡ If t ys zs → counted ≡ record old { statements = old.statements + 1 } → IsAdded p (body_of ys.items) counted one → IsAdded p (body_of zs.items) one two → IsAdded p (stmt_then s done) old two
added_if p s t ys zs old counted one two is more a b =
    let ms = (flowchart_of p).methods in
    let w = written_if s t ys zs is in
    let n = ap (λ (q : Content). q.statements) more in
    let p = a.statements in
    let q = b.statements in
    let l = ap (λ (q : Content). q.methods) more in
    record {
      statements = omega (arith, w, n, p, q);
      methods = b.methods
          ∙ ap (λ l. l ++ executed ms (body_of zs.items)) (a.methods ∙ ap (λ l. l ++ executed ms (body_of ys.items)) l)
          ∙ append_assoc old.methods (executed ms (body_of ys.items)) (executed ms (body_of zs.items))
          ∙ ap (λ l. old.methods ++ l) (sym (executed_if ms s t ys zs is));
    }

-- with the rest of a list of statements, all of the list will be added
pub record IsLeft (ms : List Routine) (all rest : Body) (old new : Content) : Type 0 where
  pub statements : new.statements + written rest ≡ old.statements + written all
  pub methods : new.methods ++ executed ms rest ≡ old.methods ++ executed ms all
  pub more : old.statements ≤ new.statements

-- a list goes on, by what it takes from the rest
pub regroup : (p a b r r' e : List ℕ) → p ≡ a ++ b → r ≡ b ++ r' → a ++ r ≡ e → p ++ r' ≡ e
regroup p a b r r' e h k m = ap (λ l. l ++ r') h ∙ append_assoc a b r' ∙ ap (λ l. a ++ l) (sym k) ∙ m

-- the statements of one method are among those of all
pub written_one : (ms : List Method) (i : ℕ) (m : Method) → m ≡ get_or ms i m → i < length ms → written (body_of m.body.items) ≤ methods_written (map routine_of ms)
written_one [] i m is lt = absurd (omega arith)
written_one (x ∷ ms) zero m is lt = let e : written (body_of m.body.items) ≡ written (body_of x.body.items) = ap (λ y. written (body_of y.body.items)) is in omega (arith, e)
written_one (x ∷ ms) (suc i) m is lt = let h = written_one ms i m is (omega arith) in omega (arith, h)
