-- How many statements there are in lists.
use Rattle.std.proofs.Common.{◌≡◌, ℕ, ◌+◌, ◌<◌, List, length, drop, get_or, ap, ◌∙◌, Vec, Global, arith}
use Rattle.pap_tree.specs.declared.expression.Expr.{Expr}
use Rattle.pap_tree.specs.declared.plan.Stmt.{Stmt, Eval, If, If', Execute}
use Rattle.pap_tree.specs.Flowchart.{Body, done, body_of, stmt_then}
use Rattle.pap_tree.specs.Statements.{written}
use Rattle.pap_tree.proofs.Statements.{stmt_then-If, stmt_at}

pub written-then : (s : Stmt) (rest : Body) → written (stmt_then s rest) ≡ written (stmt_then s done) + written rest
written-then (Eval x e) rest = omega arith
written-then (If' t m ys n zs) rest = omega arith
written-then (Execute x) rest = omega arith

pub written_at : (ss : List Stmt) (i : ℕ) (s : Stmt) → s ≡ get_or ss i s → i < length ss
    → written (body_of (drop i ss)) ≡ written (stmt_then s done) + written (body_of (drop (i + 1) ss))
written_at ss i s is lt = ap written (stmt_at ss i s is lt) ∙ written-then s (body_of (drop (i + 1) ss))

pub written_if : (s : Stmt) (t : Expr) (ys zs : Vec Stmt Global) → s ≡ If t ys zs
    → written (stmt_then s done) ≡ 1 + written (body_of ys.items) + written (body_of zs.items)
written_if s t ys zs is = ap (λ x. written (stmt_then x done)) is ∙ ap written (stmt_then-If t ys zs done) ∙ omega arith
