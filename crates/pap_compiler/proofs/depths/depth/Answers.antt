use Rattle.std.proofs.Common.{◌≡◌, ◌∙◌, length, ap, subst, arith, get_or}
use Rattle.std.specs.Prelude.{slice_index}
use Rattle.pap_tree.specs.Flowchart.{flowchart_of, routine_of, body_of}
use Rattle.pap_compiler.specs.Depths.{body_depth}
use Rattle.pap_compiler.specs.private.DepthViews.{depth_at}
use Rattle.pap_compiler.proofs.DepthLemmas.{AreDepths, within, one_deeper, main_depth}
use Rattle.pap_compiler.proofs.NumberLemmas.{routine_there}
use Rattle.pap_compiler.proofs.depths.depth.Goals as goal

pub loop-number-preserved : goal.loop-number-preserved
loop-number-preserved c =
    let f = flowchart_of c.args.t.now in
    let order = c.args.order.now in
    let k = c.loop-number.number-index in
    let d = c.index.result.now in
    let n = slice_index order k in
    let typed = c.plan.ensures.well_typed in
    let inside = within f typed order c.requires k c.loop-number-test.true in
    let there : d ≡ get_or c.args.t.now.methods.items n d = c.index.ensures ∙ ap (λ p. get_or p.methods.items n d) c.plan.ensures.text in
    let e = c.body_depth.ensures.exact
    ∙ ap (λ l. body_depth (depth_at f l) (body_of c.deref-in-loop-number.result.now)) c.deref.ensures.value
    ∙ ap (λ b. body_depth (depth_at f c.loop-number.depths.items) (body_of b)) c.deref-in-loop-number.ensures.value in
    one_deeper f typed order c.requires k c.loop-number.depths.items (routine_of d) c.body_depth.result c.loop-number.invariant c.loop-number-test.true (routine_there c.args.t.now.methods.items n d inside there) e

pub returns : goal.returns
returns c =
    let f = flowchart_of c.args.t.now in
    let order = c.args.order.now in
    let last : c.loop-number.number-index ≡ length order = omega arith in
    let e = c.body_depth-2.ensures.exact
    ∙ ap (λ l. body_depth (depth_at f l) (body_of c.deref-3.result.now)) c.deref-2.ensures.value
    ∙ ap (λ b. body_depth (depth_at f c.loop-number.depths.items) (body_of b)) (c.deref-3.ensures.value ∙ ap (λ p. p.main.items) c.plan-2.ensures.text) in
    e ∙ main_depth f c.plan.ensures.well_typed order c.requires c.loop-number.depths.items (subst (λ k. AreDepths f order k c.loop-number.depths.items) last c.loop-number.invariant)
