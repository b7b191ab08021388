-- What private contracts say of the outputs at the end of a run.
use Rattle.std.specs.Prelude.{◌+◌, ◌≤◌, ℕ, List, drop, length}
use Rattle.scaled_decimal.specs.Decimals.{Decimal}
use Rattle.pap_tree.specs.Declarations.{Declaration}
use Rattle.pap_tree.specs.Flowchart.{Flowchart}
use Rattle.failing_input.specs.declared.failure.Failure.{Failure}
use Rattle.failing_input.specs.declared.failure.Failure.TheVariants.{Node, Output}
use Rattle.failing_input.specs.Outputs.{HasBeyond}

-- one of the declared outputs, whose values stand behind so many others, is beyond its bound
abbrev pub IsBeyondAt : ℕ → List Declaration → List Decimal → List ℕ → Type 0
IsBeyondAt inputs outputs values name = HasBeyond outputs (drop inputs values) name

-- among the values of a plan's variables that output is beyond its bound
abbrev pub IsOutputFailure : Flowchart → List Decimal → Failure → Type 0
IsOutputFailure f values (Output name) = IsBeyondAt (length f.inputs) f.outputs values name
IsOutputFailure f values (Node place cause) = ⊥

-- there are values of a plan's inputs and outputs
abbrev pub HasEnds : Flowchart → List Decimal → Type 0
HasEnds f values = length f.inputs + length f.outputs ≤ length values
