-- What is found in texts so far.
use Rattle.std.specs.Prelude.{◌≡◌, ℕ, ◌+◌, List, [], ◌∷◌, ◌++◌, Option, Some, None}
use Rattle.pap_expr.specs.declared.fault.ExprFault.{ExprFault}
use Rattle.pap_expr.specs.declared.fault.ExprFault.TheVariants as exprs
use Rattle.plan_text.specs.declared.fault.PlanFault.{PlanFault}
use Rattle.plan_text.specs.declared.fault.PlanFault.TheVariants as texts
use Rattle.pap_reader.specs.declared.elements.RawStmt.{RawStmt}
use Rattle.pap_reader.specs.Trees.{RawBody, raw_stmt_then}
use Rattle.pap_reader.specs.TreeLimits.{raw_written}
use Rattle.plan_text.specs.Sites.{Site, body_sites}
use Rattle.plan_text.specs.declared.fault.Spot.{Spot}
use Rattle.diagnostics.specs.ExpressionFaults.{AreFaultsOf}

-- the faults of these texts, and no others, came behind those before
pub record Finds (sites : List Site) (before after : List PlanFault) : Type 0 where
  pub found : List PlanFault
  pub are : AreFaultsOf sites found
  pub is : after ≡ before ++ found

-- the same of the texts of a statement whose number is `at`, whatever follows it; `next` is the number of what follows
pub record FindsStatement (method : List ℕ) (at next : ℕ) (from : RawStmt) (before after : List PlanFault) : Type 0 where
  pub own : List Site
  pub finds : Finds own before after
  pub sites : (rest : RawBody) → body_sites method at (raw_stmt_then from rest) ≡ own ++ body_sites method next rest
  pub counted : (rest : RawBody) → next + raw_written rest ≡ at + raw_written (raw_stmt_then from rest)

-- what is wrong at this place, if anything is, came behind what there was; memory didn't run out
abbrev pub Keeps : Spot → Option ExprFault → List PlanFault → List PlanFault → Type 0
Keeps spot None before after = after ≡ before
Keeps spot (Some exprs.Memory) before after = ⊥
Keeps spot (Some fault) before after = after ≡ before ++ texts.Expr spot fault ∷ []
