use Rattle.std.proofs.Common.{◌≡◌, ◌++◌, drop}
use Rattle.pap_reader.specs.Trees.{raw_body_of}
use Rattle.chart_layout.specs.Statements.{statements_of, number_behind}
use Rattle.flowchart_methods.specs.Conditions.{conditions_in}
use Rattle.flowchart_methods.proofs.conditions.Reading.+reading.Given as goal

-- with what is still to be read, what was read is what the whole list gives
abbrev pub invariant-body-loop-statement : goal.invariant-body-loop-statement
invariant-body-loop-statement l =
    (l.self.conditions.items
    ++ conditions_in l.condition l.self.next (raw_body_of (drop l.statement-index l.statements))
    ≡ l.fn.self.conditions.items ++ conditions_in l.condition l.fn.self.next (raw_body_of l.statements))
    × (number_behind l.self.next (statements_of (raw_body_of (drop l.statement-index l.statements)))
    ≡ number_behind l.fn.self.next (statements_of (raw_body_of l.statements)))
