use Rattle.std.proofs.Common.{◌≡◌, ◌++◌, drop}
use Rattle.chart_layout.specs.Trees.{row_tree}
use Rattle.chart_layout.specs.Leads.{leaving, lines}
use Rattle.chart_layout.proofs.pen.Pen.in_turn.Given as goal

abbrev pub invariant-loop-statement : goal.invariant-loop-statement
invariant-loop-statement l =
    (l.self.parts ≡ l.fn.self.parts)
    × (l.self.leads.items ++ lines l.exits.items (row_tree (drop l.statement-index l.row))
    ≡ l.fn.self.leads.items ++ lines l.fn.exits.items (row_tree l.row))
    × (leaving l.exits.items (row_tree (drop l.statement-index l.row)) ≡ leaving l.fn.exits.items (row_tree l.row))
