use Rattle.std.proofs.Common.{◌≡◌, ap, ◌∙◌, arith}
use Rattle.pap_tree.specs.Flowchart.{flowchart_of, body_of}
use Rattle.interval_analysis.specs.private.BoundViews.{stopped_bound}
use Rattle.interval_analysis.proofs.BoundLemmas.{main_bound, main_fits}
use Rattle.interval_analysis.proofs.bounds.bound_of.Goals as goal

pub overflow_add-result : goal.overflow_add-result
overflow_add-result c =
    let f = flowchart_of c.args.plan.now in
    let bounds = c.in_ok-bounds.bounds.items in
    let main = c.as_slice.ensures.value ∙ ap (λ p. p.main.items) c.plan.ensures.text in
    let is : c.body_bound.result ≡ stopped_bound f bounds f.main = c.body_bound.ensures
    ∙ ap (λ l. stopped_bound f l (body_of c.as_slice.result.now)) c.deref.ensures.value
    ∙ ap (λ l. stopped_bound f bounds (body_of l)) main in
    let fits = main_fits f c.args.order.now c.plan.ensures.well_typed c.requires bounds c.body_bound.result c.plan.ensures.counted c.in_ok-bounds.ensures is in
    omega (arith, fits)

pub returns : goal.returns
returns c =
    let f = flowchart_of c.args.plan.now in
    let bounds = c.in_ok-bounds.bounds.items in
    let main = c.as_slice.ensures.value ∙ ap (λ p. p.main.items) c.plan.ensures.text in
    let is : c.body_bound.result ≡ stopped_bound f bounds f.main = c.body_bound.ensures
    ∙ ap (λ l. stopped_bound f l (body_of c.as_slice.result.now)) c.deref.ensures.value
    ∙ ap (λ l. stopped_bound f bounds (body_of l)) main in
    main_bound f c.args.order.now c.plan.ensures.well_typed c.requires bounds c.body_bound.result c.plan.ensures.counted c.in_ok-bounds.ensures is
