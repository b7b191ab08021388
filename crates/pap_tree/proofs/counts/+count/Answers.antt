use Rattle.std.proofs.Common.{◌∙◌, ap, arith}
use Rattle.pap_tree.specs.Flowchart.{body_of}
use Rattle.pap_tree.specs.Statements.{written}
use Rattle.pap_tree.proofs.CountLemmas.{written_at, written_if}
use Rattle.pap_tree.proofs.counts.+count.Goals as goal

pub written-written_in-count-requires : goal.written-written_in-count-requires
written-written_in-count-requires t c =
    let h = written_at c.args.body.now c.loop-stmt.stmt-index c.stmt-item.result c.stmt-item.is c.loop-stmt-test.true in
    (omega (arith, h), omega (arith, h))

pub written_in-written-requires : goal.written_in-written-requires
written_in-written-requires t c =
    let h = written_if _ _ _ _ c.in-If.is in
    rw c.deref.ensures.value (omega (arith, h), omega (arith, h))

pub written_in-overflow_add-result : goal.written_in-overflow_add-result
written_in-overflow_add-result t c =
    let h = written_if _ _ _ _ c.in-If.is in
    let r = c.written.ensures ∙ ap (λ l. written (body_of l)) c.deref.ensures.value in
    omega (arith, h, r)
