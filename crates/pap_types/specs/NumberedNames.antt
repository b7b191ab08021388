-- The scope of a plan's text, and the numbers of its names.
use Rattle.std.specs.Prelude.{◌≡◌}
use Rattle.pap_tree.specs.declared.plan.PlanText.{PlanText}
use Rattle.pap_tree.specs.Flowchart.{flowchart_of}
use Rattle.pap_types.specs.declared.scope.Names.{Names}
use Rattle.pap_types.specs.Scopes.{variables_of, names_of}
use Rattle.pap_types.specs.Routines.{method_names}

-- the names of the variables, of the constants and of the methods, in declared order
pub record IsNumbered (plan : PlanText) (names : Names) : Type 0 where
  pub variables : names.variables ≡ names_of (variables_of (flowchart_of plan))
  pub constants : names.constants ≡ names_of (flowchart_of plan).constants
  pub methods : names.methods ≡ method_names (flowchart_of plan).methods
