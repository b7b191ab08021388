use Rattle.std.proofs.Common.{◌≡◌, take, drop, map, not}
use Rattle.std.specs.List.{find}
use Rattle.interval_walk.specs.Analysis.{is_bounded}
use Rattle.interval_analysis.specs.private.PlanViews.{with_names}
use Rattle.interval_analysis.specs.Answers.{named_range}
use Rattle.interval_analysis.specs.private.OutputViews.{output_names}
use Rattle.interval_analysis.proofs.outputs.bounded.Given as goal

abbrev pub invariant-loop-i : goal.invariant-loop-i
invariant-loop-i l = record {
  done : map named_range l.bounded.items ≡ take l.i (with_names (output_names l.outputs) l.ranges);
  left : find (λ o. not (is_bounded o.range)) (with_names (output_names l.outputs) l.ranges) ≡ find (λ o. not (is_bounded o.range)) (drop l.i (with_names (output_names l.outputs) l.ranges));
}
