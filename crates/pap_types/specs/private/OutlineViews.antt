-- What private contracts say of the outlines of two operands.
use Rattle.std.specs.Prelude.{◌≡◌, ℕ, ◌+◌}
use Rattle.pap_tree.specs.declared.plan.PlanText.{PlanText}
use Rattle.pap_tree.specs.Term.{Term}
use Rattle.pap_tree.specs.Numbering.{nodes}
use Rattle.pap_types.specs.declared.outlines.Outlines.{Outlines}
use Rattle.pap_types.specs.Kinds.{kind_of}
use Rattle.pap_types.specs.private.ScopeViews.{scope_in}

pub record AreOutlines (p : PlanText) (a b : Term) (at : ℕ) (o : Outlines) : Type 0 where
  pub first : o.first.kind ≡ kind_of (scope_in p) a
  pub second : o.second.kind ≡ kind_of (scope_in p) b
  pub next : o.second.next ≡ at + nodes a + nodes b
