use Rattle.std.proofs.Common.{◌∙◌, ap, map, arith}
use Rattle.pap_tree.specs.Flowchart.{routine_of}
use Rattle.pap_types.specs.Counts.{methods_written}
use Rattle.call_order.proofs.ContentLemmas.{written_one}
use Rattle.call_order.proofs.contents.graph_of.Goals as goal

pub content_of-requires-clause-room : goal.content_of-requires-clause-room
content_of-requires-clause-room c =
    let methods = c.deref-method-items.ensures.value ∙ ap (λ p. p.methods.items) c.plan.ensures.text in
    let one = written_one _ _ _ c.method-item.is c.loop-method-test.true in
    let same = ap (λ l. methods_written (map routine_of l)) methods in
    rw c.deref.ensures.value (omega (arith, one, same, c.plan.ensures.counted.statements))
