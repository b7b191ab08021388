use Rattle.std.proofs.Common.{◌++◌, sym, ap, ap₂, ◌∙◌, subst, map}
use Rattle.std.specs.Prelude.{All}
use Rattle.pap_tree.specs.Declarations.{declaration_of}
use Rattle.pap_tree.specs.Flowchart.{flowchart_of}
use Rattle.pap_types.specs.Typing.{HasItsType}
use Rattle.pap_types.proofs.Laws.{parts_typed}
use Rattle.run_values.proofs.StartLemmas.{begun, is_start}
use Rattle.run_values.proofs.values.start_values.Goals as goal

pub push_first-requires : goal.push_first-requires
push_first-requires c =
    subst (λ ds. All HasItsType (map declaration_of ds))
    (sym (c.as_slice.ensures.value ∙ ap (λ p. p.outputs.items) c.plan-text.ensures.text))
    (parts_typed (flowchart_of c.args.plan.now) c.plan-text.ensures.well_typed).outputs

pub push_first-requires-2 : goal.push_first-requires-2
push_first-requires-2 c =
    subst (λ ds. All HasItsType (map declaration_of ds))
    (sym (c.as_slice-2.ensures.value ∙ ap (λ p. p.internals.items) c.plan-text.ensures.text))
    (parts_typed (flowchart_of c.args.plan.now) c.plan-text.ensures.well_typed).internals

pub returns : goal.returns
returns c =
    let outputs = c.as_slice.ensures.value ∙ ap (λ p. p.outputs.items) c.plan-text.ensures.text in
    let internals = c.as_slice-2.ensures.value ∙ ap (λ p. p.internals.items) c.plan-text.ensures.text in
    let first =
    c.in_ok-extend_from_slice.ensures.items
    ∙ ap (λ vs. vs ++ c.args.inputs.now) c.new-values.ensures.items in
    let second = c.in_ok-push_first.ensures ∙ ap₂ (λ vs ds. vs ++ begun (map declaration_of ds)) first outputs in
    let third = c.in_ok-push_first-2.ensures ∙ ap₂ (λ vs ds. vs ++ begun (map declaration_of ds)) second internals in
    is_start (flowchart_of c.args.plan.now) c.args.inputs.now c.push_first-2.new.values.items c.requires third
