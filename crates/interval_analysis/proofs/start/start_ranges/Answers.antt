use Rattle.std.proofs.Common.{◌++◌, sym, ap, ap₂, ◌∙◌, subst}
use Rattle.std.specs.Prelude.{All}
use Rattle.pap_tree.specs.Flowchart.{flowchart_of}
use Rattle.pap_types.specs.Typing.{HasItsType}
use Rattle.pap_types.proofs.Laws.{parts_typed}
use Rattle.interval_analysis.specs.private.StartViews.{declarations, limited, begun}
use Rattle.interval_analysis.proofs.StartLemmas.{is_start}
use Rattle.interval_analysis.proofs.start.start_ranges.Goals as goal

pub push_limited-requires-clause-typed : goal.push_limited-requires-clause-typed
push_limited-requires-clause-typed c =
    subst (λ ds. All HasItsType (declarations ds)) (sym (c.as_slice.ensures.value ∙ ap (λ p. p.inputs.items) c.plan-text.ensures.text)) (parts_typed (flowchart_of c.args.plan.now) c.plan-text.ensures.well_typed).inputs

pub push_begun-requires : goal.push_begun-requires
push_begun-requires c =
    subst (λ ds. All HasItsType (declarations ds)) (sym (c.as_slice-2.ensures.value ∙ ap (λ p. p.outputs.items) c.plan-text.ensures.text)) (parts_typed (flowchart_of c.args.plan.now) c.plan-text.ensures.well_typed).outputs

pub push_begun-requires-2 : goal.push_begun-requires-2
push_begun-requires-2 c =
    subst (λ ds. All HasItsType (declarations ds)) (sym (c.as_slice-3.ensures.value ∙ ap (λ p. p.internals.items) c.plan-text.ensures.text)) (parts_typed (flowchart_of c.args.plan.now) c.plan-text.ensures.well_typed).internals

pub returns : goal.returns
returns c =
    let limits = c.args.limits.now in
    let inputs = c.as_slice.ensures.value ∙ ap (λ p. p.inputs.items) c.plan-text.ensures.text in
    let outputs = c.as_slice-2.ensures.value ∙ ap (λ p. p.outputs.items) c.plan-text.ensures.text in
    let internals = c.as_slice-3.ensures.value ∙ ap (λ p. p.internals.items) c.plan-text.ensures.text in
    let first = c.in_ok-push_limited.ensures ∙ ap₂ (λ rs ds. rs ++ limited limits (declarations ds)) c.new-ranges.ensures.items inputs in
    let second = c.in_ok-push_begun.ensures ∙ ap₂ (λ rs ds. rs ++ begun (declarations ds)) first outputs in
    let third = c.in_ok-push_begun-2.ensures ∙ ap₂ (λ rs ds. rs ++ begun (declarations ds)) second internals in
    is_start c.args.plan.now limits c.push_begun-2.new.ranges.items third
