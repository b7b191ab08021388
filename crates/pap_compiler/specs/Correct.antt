-- What the code of a plan does. Source: the meaning of plans (`pap_types`) and the runs of code (`pap_machine`).
use Rattle.std.specs.Prelude.{◌≡◌, List, length, Some}
use Rattle.scaled_decimal.specs.Decimals.{Decimal}
use Rattle.pap_tree.specs.Flowchart.{Flowchart}
use Rattle.pap_types.specs.Meaning.{IsSafeFor, outputs_of, cost_of}
use Rattle.pap_machine.specs.Code.{Program}
use Rattle.pap_machine.specs.Machine.{Runs, HoldAt, IsSafeCode}
use Rattle.pap_compiler.specs.Depths.{depth_of}
use Rattle.pap_compiler.specs.Heights.{height_of}

-- the code is safe on the inputs, and its run has the plan's outputs and as many instructions as the plan has steps
pub record BehavesOn (f : Flowchart) (p : Program) (inputs : List Decimal) : Type 0 where
  pub safe : IsSafeCode p inputs
  pub outputs : List Decimal
  pub meant : outputs_of f inputs ≡ Some outputs
  pub slots : List Decimal
  pub runs : Runs p inputs (cost_of f inputs) slots
  pub held : HoldAt slots p.outputs outputs

-- the code takes the plan's inputs and outputs and does, on every input list that is safe for the plan, what it means
pub record IsCodeOf (f : Flowchart) (p : Program) : Type 0 where
  pub inputs : p.inputs ≡ length f.inputs
  pub outputs : length p.outputs ≡ length f.outputs
  pub depth : p.depth ≡ depth_of f
  pub height : p.height ≡ height_of f
  pub behaves : (inputs : List Decimal) → IsSafeFor f inputs → BehavesOn f p inputs
