use Rattle.std.proofs.Common.{◌≡◌, ◌<◌, length, get_or, set, refl, sym, ap, ◌∙◌, subst}
use Rattle.std.proofs.lemmas.List.{length-map}
use Rattle.pap_tree.specs.Flowchart.{flowchart_of, body_of, routine_of}
use Rattle.pap_types.specs.Counts.{AreSmallTerms}
use Rattle.interval_analysis.specs.private.BoundViews.{stopped_bound}
use Rattle.interval_analysis.proofs.BoundLemmas.{number_known, bounds_more, method_there, small_there}
use Rattle.interval_analysis.proofs.bounds.bounds_of.Goals as goal

pub body_bound-requires-clause-small : goal.body_bound-requires-clause-small
body_bound-requires-clause-small c =
    let ms = c.args.plan.now.methods.items in
    let i = get_or c.args.order.now c.loop-method.method-index 0 in
    let m = c.index-methods-number.result in
    let methods = c.as_slice-methods.ensures.value ∙ ap (λ p. p.methods.items) c.plan.ensures.text in
    let is = subst (λ l. m ≡ get_or l i m) methods c.index-methods-number.is in
    let known = number_known (flowchart_of c.args.plan.now) c.args.order.now c.plan.ensures.well_typed c.requires c.loop-method.method-index c.loop-method-test.true in
    let inside : i < length ms = subst (λ n. i < n) (length-map ms routine_of) known in
    subst (λ l. AreSmallTerms (body_of l)) (sym (c.as_slice.ensures.value ∙ ap (λ y. y.body.items) (sym c.index-methods-number.is))) (small_there ms i m is inside c.plan.ensures.counted.terms)

pub loop-method-preserved : goal.loop-method-preserved
loop-method-preserved c =
    let p = c.args.plan.now in
    let ms = p.methods.items in
    let k = c.loop-method.method-index in
    let order = c.args.order.now in
    let i = get_or order k 0 in
    let m = c.index-methods-number.result in
    let bounds = c.loop-method.bounds.items in
    let v = c.body_bound.result in
    let methods = c.as_slice-methods.ensures.value ∙ ap (λ p. p.methods.items) c.plan.ensures.text in
    let is = subst (λ l. m ≡ get_or l i m) methods c.index-methods-number.is in
    let known = number_known (flowchart_of p) order c.plan.ensures.well_typed c.requires k c.loop-method-test.true in
    let inside : i < length ms = subst (λ n. i < n) (length-map ms routine_of) known in
    let value = c.body_bound.ensures
    ∙ ap (λ l. stopped_bound (flowchart_of p) l (body_of c.as_slice.result.now)) c.deref.ensures.value
    ∙ ap (λ l. stopped_bound (flowchart_of p) bounds (body_of l)) (c.as_slice.ensures.value ∙ ap (λ y. y.body.items) (sym c.index-methods-number.is)) in
    bounds_more (flowchart_of p) order c.plan.ensures.well_typed c.requires k v bounds (set bounds i v) (routine_of m) c.loop-method.invariant c.loop-method-test.true (method_there ms i m is inside) value refl
