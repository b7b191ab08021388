-- What the meaning of every plan keeps.
use Rattle.std.specs.Prelude.{◌≡◌, ◌≤◌, ◌*◌, List, length, map, Some}
use Rattle.scaled_decimal.specs.Decimals.{Decimal}
use Rattle.pap_tree.specs.Term.{Term}
use Rattle.pap_tree.specs.Numbering.{nodes}
use Rattle.pap_tree.specs.Flowchart.{Flowchart}
use Rattle.pap_types.specs.Bounds.{term_bound}
use Rattle.pap_types.specs.Values.{Env, look}
use Rattle.pap_types.specs.Meaning.{AreInputs, ends_of, outputs_in, outputs_of, cost_of, bound_of}

-- the run has one list of outputs, with a value for each declared output
pub record HasOneOutputs (f : Flowchart) (inputs : List Decimal) : Type 0 where
  pub outputs : List Decimal
  pub are : outputs_of f inputs ≡ Some outputs
  pub only : (others : List Decimal) → outputs_of f inputs ≡ Some others → others ≡ outputs
  pub each : length outputs ≡ length f.outputs

-- where a run ends, each output is what stands under its name
abbrev pub OutputsStandByName : Flowchart → Type 0
OutputsStandByName f =
    (inputs : List Decimal) (ends : Env) → AreInputs f.inputs inputs → ends_of f inputs ≡ Some ends
    → map Some (outputs_in f ends) ≡ map (λ d. look ends d.name) f.outputs

-- a run costs at most the bound, also where it is undefined
abbrev pub CostsAtMostBound : Flowchart → Type 0
CostsAtMostBound f = (inputs : List Decimal) → cost_of f inputs ≤ bound_of f

-- the bound of an expression is at most two steps for each of its nodes
abbrev pub IsBoundedByNodes : Term → Type 0
IsBoundedByNodes e = term_bound e ≤ 2 * nodes e
