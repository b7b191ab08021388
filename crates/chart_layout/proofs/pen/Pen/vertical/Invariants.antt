use Rattle.std.proofs.Common.{◌≡◌}
use Rattle.chart_layout.specs.Drawn.{drawing_rows}
use Rattle.chart_layout.proofs.pen.Pen.vertical.Given as goal

abbrev pub invariant-loop-number : goal.invariant-loop-number
invariant-loop-number l =
    (drawing_rows l.self.parts.items ≡ drawing_rows l.initial.self.parts.items) × (l.self.leads ≡ l.initial.self.leads)
