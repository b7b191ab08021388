-- What an accepted plan makes of a record: its inputs, its outputs and its cost.
use Rattle.std.specs.Prelude.{◌≡◌, ◌≤◌, ℕ, List, [], ◌∷◌, Option, All, length}
use Rattle.std.specs.List.{filter_map, AllByRecursion}
use Rattle.std.specs.Option.{option_map, option_map_or}
use Rattle.scaled_decimal.specs.Decimals.{Decimal}
use Rattle.scaled_decimal.specs.Limits.{IsKept}
use Rattle.pap_tree.specs.Declarations.{Declaration}
use Rattle.limits_file.specs.declared.limits.Limits.{Limits}
use Rattle.limits_file.specs.declared.limits.InputLimit.{InputLimit}
use Rattle.limits_file.specs.declared.slots.Slot.{Slot}
use Rattle.pap_types.specs.Scopes.{literal_decimal}
use Rattle.pap_types.specs.Meaning.{outputs_of, cost_of, IsSafeFor}
use Rattle.limits_file.specs.Limits.{limit_named}
use Rattle.payroll_records.specs.declared.values.NamedValue.{NamedValue}
use Rattle.carry_bindings.specs.declared.carried.Earlier.{Earlier}
use Rattle.carry_bindings.specs.declared.filling.Filled.{Filled}
use Rattle.carry_bindings.specs.Filling.{filled_by}
use Rattle.carry_bindings.specs.Conditions.{AreBounded}
use Rattle.carry_bindings.specs.Limits.{most_runs}
use Rattle.carry_bindings.specs.declared.filling.Filled.TheVariants as filling
use Rattle.pap_plan.specs.Acceptance.{IsAccepted}
use Rattle.pap_plan.specs.Inputs.{carry_named}
use Rattle.pay_run.specs.Accepted.{Accepted}

-- an input with its type, its limit, its default and what it carries over; each input of an accepted plan has a limit
abbrev pub slot_with : Limits → Declaration → InputLimit → Slot
slot_with l d limit = record {
  name = d.name;
  kind = d.kind;
  limit = limit;
  value = option_map literal_decimal d.value;
  carry = carry_named l d.name;
}

-- an input of a plan with its limit, if it has one
abbrev pub slot_of : Limits → Declaration → Option Slot
slot_of l d = option_map (slot_with l d) (limit_named l d.name)

-- the inputs of a plan, in declared order
abbrev pub slots_of : Accepted → List Slot
slots_of p = filter_map (slot_of p.meaning.limits) p.meaning.flowchart.inputs

-- the inputs of a run with these values after the earlier runs of its year, or why it has none
unfoldable pub filled : Accepted → List NamedValue → List Earlier → Filled
filled p values earlier = filled_by (slots_of p) values earlier

-- the inputs of a run are the same whatever the earlier runs came to
abbrev pub ReadsNothing : Accepted → Type 0
ReadsNothing p =
    (values : List NamedValue) (earlier : List Earlier)
    → filled p values earlier ≡ filled p values []

-- values under the names of declarations, one for each
abbrev pub named_values : List Declaration → List Decimal → List NamedValue
named_values [] vs = []
named_values (d ∷ ds) [] = []
named_values (d ∷ ds) (v ∷ vs) = record { name = d.name; value = v } ∷ named_values ds vs

-- the outputs of a run on these inputs, in declared order; on inputs that the plan admits they are defined
unfoldable pub run_outputs : Accepted → List Decimal → List NamedValue
run_outputs p inputs =
    option_map_or (named_values p.meaning.flowchart.outputs)
    (outputs_of p.meaning.flowchart inputs) []

-- the steps of the run
unfoldable pub run_cost : Accepted → List Decimal → ℕ
run_cost p inputs = cost_of p.meaning.flowchart inputs

-- ---- a law: a run that has inputs is defined

-- the value is a decimal that 128 bits keep
abbrev pub IsKeptValue : NamedValue → Type 0
IsKeptValue v = IsKept v.value

-- inputs of an accepted plan that are filled from kept values, after earlier runs whose outputs keep their bound, are safe
abbrev pub FilledRunsAreSafe : Type 0
FilledRunsAreSafe =
    (p : Accepted) (values : List NamedValue) (earlier : List Earlier) (inputs : List Decimal)
    → IsAccepted p.plan p.limits p.meaning → All IsKeptValue values
    → length earlier ≤ most_runs → AllByRecursion (λ e. AreBounded e.outputs) earlier
    → filled p values earlier ≡ filling.Inputs inputs → IsSafeFor p.meaning.flowchart inputs
