-- What a page shows of a run.
use Rattle.std.specs.Prelude.{◌≡◌, ℕ, List, ◌++◌, Some}
use Rattle.scaled_decimal.specs.Decimals.{Decimal}
use Rattle.pap_tree.specs.Flowchart.{Flowchart}
use Rattle.pap_types.specs.Meaning.{outputs_of}
use Rattle.payroll_records.specs.declared.values.NamedValue.{NamedValue}
use Rattle.month_trace.specs.declared.step.TraceStep.{TraceStep}
use Rattle.month_trace.specs.Traces.{trace_of}
use Rattle.source_lines.specs.Lines.{FileLines}
use Rattle.flowchart_methods.specs.Marks.{Marked}
use Rattle.run_trace.specs.VariableValues.{begin_values}
use Rattle.run_trace.specs.RunPages.{part_head, part_list}
use Rattle.run_trace.specs.RunMarks.{marks_of_run}

-- what a page shows of a run: the part of it that tells of the run, and for the drawings what the run did at each statement
pub record RunPieces : Type 0 where
  pub part : List ℕ
  pub marks : List (List Marked)

-- these pieces
abbrev pub run_pieces : List ℕ → List (List Marked) → RunPieces
run_pieces part marks = record { part = part; marks = marks }

-- The part of a page tells of a run: its inputs, of which these were given, its outputs, and the statements of its trace, each with
-- its place and its line in the plan's file; of more than 1,000 statements the first 500 and the last 500. The marks are those of
-- the same statements.
pub record ShowsRun (f : Flowchart) (lines : FileLines) (given : List NamedValue) (inputs : List Decimal) (run : RunPieces)
    : Type 0 where
  pub outputs : List Decimal
  pub ran : outputs_of f inputs ≡ Some outputs
  pub steps : List TraceStep
  pub traced : trace_of f inputs ≡ Some steps
  pub shown : run.part ≡ part_head f given inputs outputs ++ part_list f lines (begin_values f inputs) steps
  pub marked : run.marks ≡ marks_of_run f inputs steps
