use Rattle.std.proofs.Common.{◌≡◌, ◌+◌, ◌*◌, ◌≤◌, drop}
use Rattle.std.specs.Prelude.{min}
use Rattle.pap_tree.specs.Flowchart.{flowchart_of, body_of, stmt_then, done}
use Rattle.pap_tree.specs.Statements.{written}
use Rattle.pap_types.specs.Bounds.{body_bound}
use Rattle.pap_types.specs.Counts.{AreSmallTerms}
use Rattle.interval_analysis.specs.private.BoundViews.{last_sum, bound_at, stopped_bound}
use Rattle.interval_analysis.proofs.bounds.+bound.Given as goal

abbrev pub decreases-body_bound : goal.decreases-body_bound
decreases-body_bound l = 2 * written (body_of l.body.now) + 1

abbrev pub decreases-stmt_bound : goal.decreases-stmt_bound
decreases-stmt_bound l = 2 * written (stmt_then l.stmt.now done)

abbrev pub invariant-body_bound-loop-stmt : goal.invariant-body_bound-loop-stmt
invariant-body_bound-loop-stmt l = record {
  fewer : written (body_of (drop l.stmt-index l.body)) ≤ written (body_of l.body);
  small : AreSmallTerms (body_of (drop l.stmt-index l.body));
  fits : l.bound ≤ last_sum;
  sum :
      min (l.bound + body_bound (bound_at (flowchart_of l.plan) l.bounds) (body_of (drop l.stmt-index l.body))) last_sum
      ≡ stopped_bound (flowchart_of l.plan) l.bounds (body_of l.body);
}
