use Rattle.std.proofs.Common.{◌≡◌, ◌+◌, ◌*◌, ◌≤◌, max, drop}
use Rattle.pap_tree.specs.Flowchart.{flowchart_of, body_of, stmt_then, done}
use Rattle.pap_compiler.specs.CodeDecisions.{body_length}
use Rattle.pap_compiler.specs.Depths.{body_depth}
use Rattle.pap_compiler.specs.private.DepthViews.{depth_at}
use Rattle.pap_compiler.proofs.depths.+depth.Given as goal

abbrev pub decreases-body_depth : goal.decreases-body_depth
decreases-body_depth l = 4 * body_length (body_of l.body.now) + 1

abbrev pub decreases-stmt_depth : goal.decreases-stmt_depth
decreases-stmt_depth l = 4 * body_length (stmt_then l.s.now done)

abbrev pub decreases-branches_depth : goal.decreases-branches_depth
decreases-branches_depth l = 4 * (body_length (body_of l.yes.now) + body_length (body_of l.no.now)) + 2

abbrev pub invariant-body_depth-loop-s : goal.invariant-body_depth-loop-s
invariant-body_depth-loop-s l =
    let call = depth_at (flowchart_of l.t) l.depths in
    let left = body_of (drop l.s-index l.body) in
    record {
      exact : max l.depth (body_depth call left) ≡ body_depth call (body_of l.body);
      small : l.depth ≤ 65;
      shorter : body_length left ≤ body_length (body_of l.body);
    }
