use Rattle.std.proofs.Common.{ap, arith}
use Rattle.pap_tree.specs.Flowchart.{flowchart_of, done}
use Rattle.pap_tree.proofs.Laws.{branch_is}
use Rattle.pap_compiler.specs.CodeDecisions.{body_length}
use Rattle.pap_compiler.specs.Depths.{body_depth}
use Rattle.pap_compiler.specs.private.DepthViews.{depth_at}
use Rattle.pap_compiler.proofs.SizeLemmas.{size_at}
use Rattle.pap_compiler.proofs.DepthLemmas.{depth_from}
use Rattle.pap_compiler.proofs.depths.+depth.Goals as goal

pub body_depth-stmt_depth-requires : goal.body_depth-stmt_depth-requires
body_depth-stmt_depth-requires t c =
    let h = size_at c.args.body.now c.loop-s.s-index c.s-item.result c.s-item.is c.loop-s-test.true in
    (omega (arith, h.length, c.loop-s.invariant.shorter), c.requires)

pub body_depth-loop-s-preserved : goal.body_depth-loop-s-preserved
body_depth-loop-s-preserved t c =
    let call = depth_at (flowchart_of c.args.t.now) c.args.depths.now in
    let h = size_at c.args.body.now c.loop-s.s-index c.s-item.result c.s-item.is c.loop-s-test.true in
    let d = depth_from call c.args.body.now c.loop-s.s-index c.s-item.result c.s-item.is c.loop-s-test.true in
    record {
      exact = omega (arith, d, c.loop-s.invariant.exact, c.max-depth.ensures, c.stmt_depth.ensures.exact);
      small = omega (arith, c.loop-s.invariant.small, c.max-depth.ensures, c.stmt_depth.ensures.small);
      shorter = omega (arith, h.length, c.loop-s.invariant.shorter);
    }

pub stmt_depth-branches_depth-requires : goal.stmt_depth-branches_depth-requires
stmt_depth-branches_depth-requires t c =
    let same = branch_is c.args.s.now c.in-If.test c.in-If.yes c.in-If.no c.deref.result.now c.deref-in-If.result.now c.in-If.is c.deref.ensures.value c.deref-in-If.ensures.value done in
    (omega (arith, ap body_length same), c.requires)

pub stmt_depth-returns-in-If-clause-exact : goal.stmt_depth-returns-in-If-clause-exact
stmt_depth-returns-in-If-clause-exact t c =
    let call = depth_at (flowchart_of c.args.t.now) c.args.depths.now in
    let same = branch_is c.args.s.now c.in-If.test c.in-If.yes c.in-If.no c.deref.result.now c.deref-in-If.result.now c.in-If.is c.deref.ensures.value c.deref-in-If.ensures.value done in
    omega (arith, ap (body_depth call) same, c.branches_depth.ensures.exact)
