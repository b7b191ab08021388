-- What private contracts say of a plan with what was computed of it before the walk.
use Rattle.std.specs.Prelude.{◌≡◌, List, [], map}
use Rattle.scaled_decimal.specs.Decimals.{Decimal}
use Rattle.pap_tree.specs.declared.plan.PlanText.{PlanText}
use Rattle.pap_tree.specs.Declarations.{Declaration}
use Rattle.pap_tree.specs.Flowchart.{flowchart_of}
use Rattle.pap_types.specs.Scopes.{variables_of, declared_table}

-- the items of each declared name, which has none where it is no table
abbrev pub tables_of : List Declaration → List (List Decimal)
tables_of ds = map (λ d. declared_table d.value) ds

-- the tables of a plan's variables and constants by number, and that of a name that isn't declared
pub record IsTabled (p : PlanText) (vs cs : List (List Decimal)) (other : List Decimal) : Type 0 where
  pub variables : vs ≡ tables_of (variables_of (flowchart_of p))
  pub constants : cs ≡ tables_of (flowchart_of p).constants
  pub none : other ≡ []
