-- What private contracts cite beside the definitions of Conditions.
use Rattle.std.specs.Prelude.{ℕ, Option, List}
use Rattle.pap_reader.specs.declared.elements.RawStmt.{RawStmt}
use Rattle.pap_reader.specs.Trees.{done, raw_stmt_then}
use Rattle.chart_layout.specs.Statements.{number_behind, statements_of}
use Rattle.flowchart_methods.specs.declared.conditions.Condition.{Condition}
use Rattle.flowchart_methods.specs.Conditions.{conditions_in}

-- those of a statement and of what stands in its branches
abbrev pub statement_conditions : Option Condition → ℕ → RawStmt → List (Option Condition)
statement_conditions here n s = conditions_in here n (raw_stmt_then s done)

-- the number behind a statement and what stands in its branches
abbrev pub number_after : ℕ → RawStmt → ℕ
number_after n s = number_behind n (statements_of (raw_stmt_then s done))
