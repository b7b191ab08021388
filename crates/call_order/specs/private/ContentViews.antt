-- What the private functions answer about lists of statements.
use Rattle.std.specs.Prelude.{◌≡◌, ◌+◌, ◌++◌}
use Rattle.pap_tree.specs.declared.plan.PlanText.{PlanText}
use Rattle.pap_tree.specs.Flowchart.{Body, flowchart_of}
use Rattle.pap_tree.specs.Statements.{written}
use Rattle.call_order.specs.Graphs.{Content, executed}

-- a list of statements of a plan was added
pub record IsAdded (plan : PlanText) (b : Body) (old new : Content) : Type 0 where
  pub statements : new.statements ≡ old.statements + written b
  pub methods : new.methods ≡ old.methods ++ executed (flowchart_of plan).methods b
