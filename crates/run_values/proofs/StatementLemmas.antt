-- A statement is typed, and so are those behind it.
use Rattle.std.proofs.Common.{List}
use Rattle.pap_tree.specs.declared.plan.Stmt.{Stmt, Eval, If', Execute}
use Rattle.pap_tree.specs.Flowchart.{Body, done, stmt_then, Routine}
use Rattle.pap_types.specs.Scopes.{Scope}
use Rattle.pap_types.specs.Typing.{IsTypedBody}

module _ (scope : Scope) (ms : List Routine) where
  pub typed_here : (s : Stmt) (rest : Body) → IsTypedBody scope ms (stmt_then s rest)
      → IsTypedBody scope ms (stmt_then s done)
  typed_here (Eval x e) rest h = (h.0, h.1, tt)
  typed_here (If' t m ys n zs) rest h = (h.0, h.1, h.2, h.3, tt)
  typed_here (Execute x) rest h = (h.0, tt)

  pub typed_rest : (s : Stmt) (rest : Body) → IsTypedBody scope ms (stmt_then s rest) → IsTypedBody scope ms rest
  typed_rest (Eval x e) rest h = h.2
  typed_rest (If' t m ys n zs) rest h = h.4
  typed_rest (Execute x) rest h = h.1
