-- The parts of a run's text, as they are added.
use Rattle.std.specs.Prelude.{◌≡◌, ℕ, List, ◌++◌, Some}
use Rattle.scaled_decimal.specs.Decimals.{Decimal}
use Rattle.pap_tree.specs.Flowchart.{Flowchart}
use Rattle.pap_types.specs.Meaning.{outputs_of}
use Rattle.payroll_records.specs.declared.values.NamedValue.{NamedValue}
use Rattle.month_trace.specs.declared.step.TraceStep.{TraceStep}
use Rattle.month_trace.specs.Traces.{trace_of}
use Rattle.source_lines.specs.Lines.{FileLines}
use Rattle.run_trace.specs.VariableValues.{begin_values}
use Rattle.run_trace.specs.StepLines.{traced_lines}
use Rattle.run_trace.specs.RunTexts.{head_lines}

-- what is told above the steps of a run is added
pub record AddsHead (f : Flowchart) (given : List NamedValue) (inputs : List Decimal) (before after : List ℕ) : Type 0 where
  pub outputs : List Decimal
  pub ran : outputs_of f inputs ≡ Some outputs
  pub added : after ≡ before ++ head_lines f given inputs outputs

-- the lines of a run's steps are added
pub record AddsSteps (f : Flowchart) (lines : FileLines) (inputs : List Decimal) (before after : List ℕ) : Type 0 where
  pub steps : List TraceStep
  pub traced : trace_of f inputs ≡ Some steps
  pub added : after ≡ before ++ traced_lines f lines (begin_values f inputs) steps
