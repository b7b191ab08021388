-- The parts of a run's part of a page, as they are added.
use Rattle.std.specs.Prelude.{◌≡◌, ℕ, List, ◌++◌, Some}
use Rattle.scaled_decimal.specs.Decimals.{Decimal}
use Rattle.pap_tree.specs.Flowchart.{Flowchart}
use Rattle.pap_types.specs.Meaning.{outputs_of}
use Rattle.payroll_records.specs.declared.values.NamedValue.{NamedValue}
use Rattle.month_trace.specs.declared.step.TraceStep.{TraceStep}
use Rattle.month_trace.specs.Traces.{trace_of}
use Rattle.source_lines.specs.Lines.{FileLines}
use Rattle.flowchart_methods.specs.Marks.{Marked}
use Rattle.run_trace.specs.declared.entries.Entry.{Entry}
use Rattle.run_trace.specs.VariableValues.{begin_values}
use Rattle.run_trace.specs.StepLines.{StepPlace, step_place}
use Rattle.run_trace.specs.RunPages.{EntryWords, part_head, part_list}
use Rattle.run_trace.specs.RunMarks.{marks_of_run}

-- the place of an entry
abbrev pub place_of_entry : Entry → StepPlace
place_of_entry e = step_place e.method e.statement

-- its words
abbrev pub words_of_entry : Entry → EntryWords
words_of_entry e =
    record { line = e.line.now; code = e.code.now; outcome = e.outcome.now; operands = e.operands.now }

-- what stands above the statements of a run is added
pub record AddsTables (f : Flowchart) (given : List NamedValue) (inputs : List Decimal) (before after : List ℕ) : Type 0 where
  pub outputs : List Decimal
  pub ran : outputs_of f inputs ≡ Some outputs
  pub added : after ≡ before ++ part_head f given inputs outputs

-- the list of a run's statements is added, and these are its marks
pub record AddsList (f : Flowchart) (lines : FileLines) (inputs : List Decimal) (before after : List ℕ) (marks : List (List Marked))
    : Type 0 where
  pub steps : List TraceStep
  pub traced : trace_of f inputs ≡ Some steps
  pub added : after ≡ before ++ part_list f lines (begin_values f inputs) steps
  pub marked : marks ≡ marks_of_run f inputs steps
