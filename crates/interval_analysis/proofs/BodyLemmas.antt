-- What may be walked of lists of statements.
use Rattle.std.proofs.Common.{◌≡◌, ℕ, ◌+◌, ◌<◌, arith}
use Rattle.pap_tree.specs.declared.plan.Stmt.{Stmt, Eval, If', Execute}
use Rattle.pap_tree.specs.Flowchart.{Body, done, stmt_then}
use Rattle.pap_tree.specs.Statements.{written}
use Rattle.interval_analysis.specs.declared.expressions.Walk.{Walk}
use Rattle.interval_analysis.specs.private.StatementViews.{CanWalkBody}

module _ (w : Walk) (at : ℕ) where
  -- a statement, and those behind it
  pub can_here : (s : Stmt) (rest : Body) → CanWalkBody w (stmt_then s rest) at → CanWalkBody w (stmt_then s done) at
  can_here (Eval x e) rest h = record { typed = (h.typed.0, h.typed.1, tt); small = (h.small.0, tt); room = omega (arith, h.room) }
  can_here (If' t m ys k zs) rest h = record {
    typed = (h.typed.0, h.typed.1, h.typed.2, h.typed.3, tt);
    small = (h.small.0, h.small.1, h.small.2, tt);
    room = omega (arith, h.room);
  }
  can_here (Execute x) rest h = record { typed = (h.typed.0, tt); small = tt; room = omega (arith, h.room) }

  pub can_rest : (s : Stmt) (rest : Body) → CanWalkBody w (stmt_then s rest) at → CanWalkBody w rest (at + written (stmt_then s done))
  can_rest (Eval x e) rest h = record { typed = h.typed.2; small = h.small.1; room = omega (arith, h.room) }
  can_rest (If' t m ys k zs) rest h = record { typed = h.typed.4; small = h.small.3; room = omega (arith, h.room) }
  can_rest (Execute x) rest h = record { typed = h.typed.1; small = h.small; room = omega (arith, h.room) }
