use Rattle.std.proofs.Common.{◌≡◌, take, drop}
use Rattle.std.specs.List.{flat_map}
use Rattle.chart_layout.specs.private.Drawn.{figures_statements}
use Rattle.chart_layout.specs.private.Statements.{statements_in, Adds}
use Rattle.pap_reader.specs.Trees.{raw_body_of}
use Rattle.chart_layout.specs.Trees.{above, drawing_of}
use Rattle.chart_layout.specs.private.Trees.{figures_tree}
use Rattle.chart_layout.proofs.build.Builder.+build.Given as goal

-- the statements so far are appended, and the others are still to be drawn
abbrev pub invariant-body-loop-statement : goal.invariant-body-loop-statement
invariant-body-loop-statement l =
    Adds l.fn.self.numbering l.self.numbering (flat_map statements_in (take l.statement-index l.statements))
    (figures_statements l.fn.figures.items) (figures_statements l.figures.items)
    × (above (figures_tree l.figures.items) (drawing_of l.self.numbering.next (raw_body_of (drop l.statement-index l.statements)))
    ≡ above (figures_tree l.fn.figures.items) (drawing_of l.fn.self.numbering.next (raw_body_of l.statements)))
