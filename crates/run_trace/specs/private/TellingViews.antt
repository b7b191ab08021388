-- What is known of a flowchart while its run is told.
use Rattle.std.specs.Prelude.{◌≡◌}
use Rattle.pap_tree.specs.Flowchart.{flowchart_of}
use Rattle.statement_list.specs.Statements.{listed_methods}
use Rattle.run_trace.specs.declared.telling.Telling.{Telling}
use Rattle.run_trace.specs.declared.telling.Told.{Told}
use Rattle.run_trace.specs.StepLines.{StepPlace, step_place}

-- the statements are those of the flowchart
abbrev pub KnowsStatements : Telling → Type 0
KnowsStatements t = t.methods.now ≡ listed_methods (flowchart_of t.plan.now)

-- the place of which something is told
abbrev pub place_of_told : Told → StepPlace
place_of_told t = step_place t.method t.statement
