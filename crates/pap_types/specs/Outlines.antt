-- The kind of an expression, and the numbers of its nodes.
use Rattle.std.specs.Prelude.{◌≡◌, ℕ, ◌+◌}
use Rattle.pap_tree.specs.declared.plan.PlanText.{PlanText}
use Rattle.pap_tree.specs.Flowchart.{flowchart_of}
use Rattle.pap_tree.specs.Term.{Term}
use Rattle.pap_tree.specs.Numbering.{nodes}
use Rattle.pap_types.specs.declared.outlines.Outline.{Outline}
use Rattle.pap_types.specs.Kinds.{kind_of}
use Rattle.pap_types.specs.Scopes.{scope_of}

-- the kind of an expression of a plan, and the number that follows its nodes', which are numbered from `at`
pub record IsOutline (p : PlanText) (t : Term) (at : ℕ) (o : Outline) : Type 0 where
  pub kind : o.kind ≡ kind_of (scope_of (flowchart_of p)) t
  pub next : o.next ≡ at + nodes t
