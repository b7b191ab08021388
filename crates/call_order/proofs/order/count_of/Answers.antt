use Rattle.std.proofs.Common.{◌∙◌, ap, subst}
use Rattle.pap_tree.specs.Flowchart.{flowchart_of, body_of}
use Rattle.call_order.specs.Graphs.{content_of}
use Rattle.call_order.specs.private.LengthViews.{AreLengths}
use Rattle.call_order.proofs.WholeLemmas.{known}
use Rattle.call_order.proofs.FoundLemmas.{main_known, counted}
use Rattle.call_order.proofs.order.count_of.Goals as goal

pub lengths_of-requires-clause-known : goal.lengths_of-requires-clause-known
lengths_of-requires-clause-known c = known (flowchart_of c.args.t.now).methods c.args.graph.now c.requires.graph

pub length_with-requires : goal.length_with-requires
length_with-requires c =
    let f = flowchart_of c.args.t.now in
    let lengths = subst (λ g. AreLengths g c.args.order.now c.in_ok-lengths.lengths.items) c.requires.graph c.in_ok-lengths.ensures in
    let statements = c.deref.ensures.value ∙ ap (λ p. p.main.items) c.plan.ensures.text in
    let main = c.in_ok-main.ensures ∙ ap (λ l. content_of f.methods (body_of l)) statements in
    main_known f c.args.order.now c.in_ok-lengths.lengths.items c.requires.order lengths c.in_ok-main.main c.deref-2.result.now main c.deref-2.ensures.value

pub returns : goal.returns
returns c =
    let f = flowchart_of c.args.t.now in
    let lengths = subst (λ g. AreLengths g c.args.order.now c.in_ok-lengths.lengths.items) c.requires.graph c.in_ok-lengths.ensures in
    let statements = c.deref.ensures.value ∙ ap (λ p. p.main.items) c.plan.ensures.text in
    let main = c.in_ok-main.ensures ∙ ap (λ l. content_of f.methods (body_of l)) statements in
    counted f c.args.order.now c.in_ok-lengths.lengths.items c.requires.order lengths c.length_with.result c.in_ok-main.main c.deref-2.result.now main c.deref-2.ensures.value c.length_with.ensures
