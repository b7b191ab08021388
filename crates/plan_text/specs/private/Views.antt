-- What the answers of private functions tell.
use Rattle.std.specs.Prelude.{◌≡◌, ℕ, ◌+◌, List, Result, Ok, Err, ⊤}
use Rattle.pap_tree.specs.declared.expression.Expr.{Expr}
use Rattle.pap_tree.specs.declared.plan.Stmt.{Stmt}
use Rattle.pap_tree.specs.declared.plan.Stmt.TheVariants as stmts
use Rattle.pap_tree.specs.Term.{term_of}
use Rattle.pap_tree.specs.Expressions.{IsAccepted}
use Rattle.pap_tree.specs.Flowchart.{Body, stmt_then}
use Rattle.pap_tree.specs.Grammar.{Level, Assignment, tree, assignment}
use Rattle.pap_expr.specs.declared.fault.ExprFault.{ExprFault}
use Rattle.pap_expr.specs.declared.fault.ExprFault.TheVariants as exprs
use Rattle.pap_reader.specs.declared.elements.RawStmt.{RawStmt}
use Rattle.pap_reader.specs.Trees.{RawBody, raw_stmt_then}
use Rattle.pap_reader.specs.TreeLimits.{raw_written}
use Rattle.plan_text.specs.declared.fault.Spot.{Spot}
use Rattle.plan_text.specs.declared.fault.PlanFault.{PlanFault}
use Rattle.plan_text.specs.declared.fault.PlanFault.TheVariants as faults
use Rattle.plan_text.specs.Plans.{IsBody}
use Rattle.plan_text.specs.Sites.{Site, body_sites, IsFirstFault}

-- the fault of an expression's text; that memory ran out is a fault of its own
abbrev pub fault_at : Spot → ExprFault → PlanFault
fault_at spot exprs.Memory = faults.Memory
fault_at spot f = faults.Expr spot f

-- the fault is the first of the texts; that memory ran out says nothing
abbrev pub TellsFault : List Site → PlanFault → Type 0
TellsFault sites (faults.Expr spot fault) = IsFirstFault sites spot fault
TellsFault sites (faults.Read fault) = ⊥
TellsFault sites faults.Memory = ⊤

-- what was read is so, or the fault is that of its texts
abbrev pub Tells : {A : Type 0} → List Site → (A → Type 0) → Result A PlanFault → Type 0
Tells sites IsSo (Ok read) = IsSo read
Tells sites IsSo (Err f) = TellsFault sites f

-- the text is a test of this tree
abbrev pub IsTest : List ℕ → Expr → Type 0
IsTest text e = IsAccepted (Level 0) text (tree (term_of e))

-- the text is the assignment of this statement
pub record IsAssignment (text : List ℕ) (s : Stmt) : Type 0 where
  pub target : List ℕ
  pub value : Expr
  pub is : s ≡ stmts.Eval target value
  pub accepted : IsAccepted Assignment text (assignment target (term_of value))

-- A statement whose number is `at` was read, whatever follows: it is that of its texts, these are readable, and `next` is the
-- number of what follows.
pub record IsStatement (method : List ℕ) (at next : ℕ) (from : RawStmt) (s : Stmt) : Type 0 where
  pub is : (rest : RawBody) (more : Body) → IsBody rest more → IsBody (raw_stmt_then from rest) (stmt_then s more)
  pub later : (rest : RawBody) (f : PlanFault)
      → TellsFault (body_sites method next rest) f → TellsFault (body_sites method at (raw_stmt_then from rest)) f
  pub counted : (rest : RawBody) → next + raw_written rest ≡ at + raw_written (raw_stmt_then from rest)

abbrev pub TellsStatement : List ℕ → ℕ → ℕ → RawStmt → Result Stmt PlanFault → Type 0
TellsStatement method at next from (Ok s) = IsStatement method at next from s
TellsStatement method at next from (Err f) = (rest : RawBody) → TellsFault (body_sites method at (raw_stmt_then from rest)) f
