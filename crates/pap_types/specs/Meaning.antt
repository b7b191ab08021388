-- The meaning of a plan: its outputs on a list of inputs, what the run costs, and when it is safe. Source:
-- docs/PROFILE.md, "What an expression gives" and "Answers".
use Rattle.std.specs.Prelude.{◌≡◌, ℕ, ◌+◌, List, [], ◌∷◌, ◌++◌, map, length, drop, take, Option, Some, ⊤}
use Rattle.std.specs.Option.{option_map}
use Rattle.scaled_decimal.specs.Decimals.{Decimal, scale_of}
use Rattle.scaled_decimal.specs.Limits.{IsKept}
use Rattle.pap_tree.specs.declared.declaration.Kind.{Kind}
use Rattle.pap_tree.specs.declared.declaration.Kind.TheVariants as declares
use Rattle.pap_tree.specs.Declarations.{Declaration}
use Rattle.pap_tree.specs.Flowchart.{Flowchart}
use Rattle.pap_types.specs.Limits.{longest_chain}
use Rattle.pap_types.specs.Scopes.{scope_of, first_value, factor_places}
use Rattle.pap_types.specs.Values.{Env, Variable}
use Rattle.pap_types.specs.Runs.{Calls, after, spent, IsSafeBody, calls_of}
use Rattle.pap_types.specs.Bounds.{body_bound, method_bound}

-- what the methods of a plan do
abbrev pub calls_in : Flowchart → Calls
calls_in f = calls_of (scope_of f) f.methods longest_chain

-- a variable with what it begins with
abbrev pub first_entry : Declaration → Variable
first_entry d = record { name = d.name; value = first_value d }

-- the inputs with the values that are supplied, in declared order
abbrev pub given : List Declaration → List Decimal → Env
given [] vs = []
given (d ∷ ds) [] = []
given (d ∷ ds) (v ∷ vs) = record { name = d.name; value = v } ∷ given ds vs

-- the environment in which a run starts
abbrev pub start : Flowchart → List Decimal → Env
start f inputs = given f.inputs inputs ++ map first_entry (f.outputs ++ f.internals)

-- where the run of MAIN leads, or none where it is undefined
abbrev pub ends_of : Flowchart → List Decimal → Option Env
ends_of f inputs = after (scope_of f) (calls_in f) f.main (start f inputs)

-- the values of the outputs in declared order, which stand after the inputs
abbrev pub outputs_in : Flowchart → Env → List Decimal
outputs_in f env = take (length f.outputs) (drop (length f.inputs) (map (λ v. v.value) env))

-- the outputs of a run, or none where it is undefined
abbrev pub outputs_of : Flowchart → List Decimal → Option (List Decimal)
outputs_of f inputs = option_map (outputs_in f) (ends_of f inputs)

-- what a run costs: its end is one step
abbrev pub cost_of : Flowchart → List Decimal → ℕ
cost_of f inputs = spent (scope_of f) (calls_in f) f.main (start f inputs) + 1

-- the most that a run costs
abbrev pub bound_of : Flowchart → ℕ
bound_of f = body_bound (method_bound f.methods longest_chain) f.main + 1

-- a kept decimal is as an input of a kind has it
abbrev pub SuitsKind : Kind → Decimal → Type 0
SuitsKind declares.Int d = IsKept d × (scale_of d ≡ 0)
SuitsKind declares.Long d = IsKept d × (scale_of d ≡ 0)
SuitsKind declares.Factor d = IsKept d × (scale_of d ≡ factor_places)
SuitsKind _ d = IsKept d

-- these are the values of the inputs: one suitable decimal for each declared input
abbrev pub AreInputs : List Declaration → List Decimal → Type 0
AreInputs [] [] = ⊤
AreInputs (d ∷ ds) (v ∷ vs) = SuitsKind d.kind v × AreInputs ds vs
AreInputs _ _ = ⊥

-- the inputs are safe for the plan: the run is defined, and every number that it works with is within its limit
pub record IsSafeFor (f : Flowchart) (inputs : List Decimal) : Type 0 where
  pub given : AreInputs f.inputs inputs
  pub ends : Env
  pub defined : ends_of f inputs ≡ Some ends
  pub safe : IsSafeBody (scope_of f) (calls_in f) f.main (start f inputs)
