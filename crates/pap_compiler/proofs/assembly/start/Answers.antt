use Rattle.std.proofs.Common.{◌∙◌, ap, sym, subst, map}
use Rattle.std.specs.List.{All}
use Rattle.pap_tree.specs.Declarations.{declaration_of}
use Rattle.pap_tree.specs.Flowchart.{flowchart_of}
use Rattle.pap_types.specs.Typing.{HasItsType}
use Rattle.pap_types.proofs.Laws.{parts_typed}
use Rattle.pap_compiler.proofs.assembly.start.Goals as goal

pub push_values-requires : goal.push_values-requires
push_values-requires c =
    let typed = parts_typed (flowchart_of c.args.t.now) c.plan-plan.ensures.well_typed in
    subst (λ l. All HasItsType (map declaration_of l)) (sym (c.deref.ensures.value ∙ ap (λ p. p.inputs.items) c.plan-plan.ensures.text)) typed.inputs

pub push_values-requires-2 : goal.push_values-requires-2
push_values-requires-2 c =
    let typed = parts_typed (flowchart_of c.args.t.now) c.plan-plan.ensures.well_typed in
    subst (λ l. All HasItsType (map declaration_of l)) (sym (c.deref-2.ensures.value ∙ ap (λ p. p.outputs.items) c.plan-plan.ensures.text)) typed.outputs

pub push_values-requires-3 : goal.push_values-requires-3
push_values-requires-3 c =
    let typed = parts_typed (flowchart_of c.args.t.now) c.plan-plan.ensures.well_typed in
    subst (λ l. All HasItsType (map declaration_of l)) (sym (c.deref-3.ensures.value ∙ ap (λ p. p.internals.items) c.plan-plan.ensures.text)) typed.internals
