use Rattle.std.proofs.Common.{◌+◌, ◌<◌, length, map, drop, slice_index_or, ap, subst, ◌∙◌}
use Rattle.pap_tree.specs.Declarations.{declaration_of}
use Rattle.pap_plan.proofs.BindingLemmas.{AreSuited, one_more, left_from}
use Rattle.pap_plan.proofs.bindings.first_unsuited.Goals as goal

-- src/bindings.rt:100:5
pub loop-input-preserved : goal.loop-input-preserved
loop-input-preserved c =
    let items = c.args.plan.now.inputs.items in
    let i = c.loop-input.input-index in
    let is = c.input-item.is ∙ ap (λ xs. slice_index_or xs i c.input-item.result) c.deref-input-items.ensures.value in
    let less = subst (λ xs. i < length xs) c.deref-input-items.ensures.value c.loop-input-test.true in
    let left = left_from items i c.input-item.result is less in
    one_more c.args.ranges.now (map declaration_of items) (map declaration_of (drop (i + 1) items)) (declaration_of c.input-item.result)
    (subst (AreSuited c.args.ranges.now (map declaration_of items)) left c.loop-input.invariant) (c.has_suited_limit.ensures.0 c.if-not-has_suited_limit.false)
