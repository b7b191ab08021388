-- The text of a run.
use Rattle.std.specs.Prelude.{◌≡◌, ℕ, if◌then◌else◌, is_some, List, [], ◌∷◌, ◌++◌, codes, Some}
use Rattle.std.specs.List.{flat_map}
use Rattle.std.specs.Fmt.{decimal as number}
use Rattle.scaled_decimal.specs.Decimals.{Decimal}
use Rattle.scaled_decimal.specs.PlainTexts.{plain_text}
use Rattle.pap_tree.specs.Declarations.{Declaration}
use Rattle.pap_tree.specs.Flowchart.{Flowchart}
use Rattle.pap_types.specs.Meaning.{outputs_of, cost_of, bound_of}
use Rattle.payroll_records.specs.declared.values.NamedValue.{NamedValue}
use Rattle.payroll_records.specs.NamedValues.{value_at}
use Rattle.pay_run.specs.Runs.{named_values}
use Rattle.month_trace.specs.declared.step.TraceStep.{TraceStep}
use Rattle.month_trace.specs.Traces.{trace_of}
use Rattle.source_lines.specs.Lines.{FileLines}
use Rattle.run_trace.specs.VariableValues.{begin_values}
use Rattle.run_trace.specs.StepLines.{traced_lines}

-- whether the value of an input is given, in words
abbrev pub given_word : List NamedValue → List ℕ → List ℕ
given_word given x = if is_some (value_at given x) then codes "given" else codes "not given"

-- an input: input NAME = VALUE, and whether it is given
abbrev pub input_line : List NamedValue → List ℕ → Decimal → List ℕ
input_line given x v =
    codes "input " ++ (x ++ (codes " = " ++ (plain_text v ++ (codes "  " ++ (given_word given x ++ codes "\n")))))

-- a line for each input
abbrev pub input_lines : List NamedValue → List Declaration → List Decimal → List ℕ
input_lines given [] vs = []
input_lines given (d ∷ ds) [] = []
input_lines given (d ∷ ds) (v ∷ vs) = input_line given d.name v ++ input_lines given ds vs

-- an output: output NAME = VALUE
abbrev pub output_line : NamedValue → List ℕ
output_line o = codes "output " ++ (o.name ++ (codes " = " ++ (plain_text o.value ++ codes "\n")))

-- the steps of a run, and the most that a run may take
abbrev pub cost_line : ℕ → ℕ → List ℕ
cost_line cost bound = codes "steps " ++ (number cost ++ (codes " of at most " ++ (number bound ++ codes "\n")))

-- what is told above the steps: inputs, outputs, how many steps
abbrev pub head_lines : Flowchart → List NamedValue → List Decimal → List Decimal → List ℕ
head_lines f given inputs outputs =
    input_lines given f.inputs inputs
    ++ (flat_map output_line (named_values f.outputs outputs) ++ cost_line (cost_of f inputs) (bound_of f))

-- The text tells of a run: its inputs, of which these were given, its outputs, and the statements of its trace, each with its
-- place and its line in the plan's file.
pub record TellsRun (f : Flowchart) (lines : FileLines) (given : List NamedValue) (inputs : List Decimal) (text : List ℕ)
    : Type 0 where
  pub outputs : List Decimal
  pub ran : outputs_of f inputs ≡ Some outputs
  pub steps : List TraceStep
  pub traced : trace_of f inputs ≡ Some steps
  pub told : text ≡ head_lines f given inputs outputs ++ traced_lines f lines (begin_values f inputs) steps
