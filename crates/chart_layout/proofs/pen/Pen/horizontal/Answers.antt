use Rattle.std.proofs.Common.{refl}
use Rattle.chart_layout.proofs.DrawnLemmas.{same_part}
use Rattle.chart_layout.proofs.pen.Pen.horizontal.Goals as goal

pub returns-in_ok-push-clause-same : goal.returns-in_ok-push-clause-same
returns-in_ok-push-clause-same c = same_part c.args.self.now.parts.items _ c.in-Some.part.now _ c.in-Some.ensures.value refl
