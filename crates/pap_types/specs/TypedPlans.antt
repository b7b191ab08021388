-- What holds of a well-typed plan and the numbers of its names.
use Rattle.pap_tree.specs.declared.plan.PlanText.{PlanText}
use Rattle.pap_tree.specs.Flowchart.{flowchart_of}
use Rattle.pap_types.specs.declared.scope.Names.{Names}
use Rattle.pap_types.specs.Checks.{IsWellTyped}
use Rattle.pap_types.specs.Counts.{IsWithinCounts}
use Rattle.pap_types.specs.NumberedNames.{IsNumbered}

-- the plan is well typed and within its limits, and these are the numbers of its names
pub record IsTyped (plan : PlanText) (names : Names) : Type 0 where
  pub well_typed : IsWellTyped (flowchart_of plan)
  pub counted : IsWithinCounts (flowchart_of plan)
  pub numbered : IsNumbered plan names
