use Rattle.std.proofs.Common.{◌++◌, ap, ◌∙◌, arith}
use Rattle.run_trace.proofs.LineLemmas.{one_text}
use Rattle.run_trace.proofs.tally.value_line.Goals as goal

pub loop-text-preserved : goal.loop-text-preserved
loop-text-preserved c =
    one_text (λ t. t.items) c.loop-text.lead.now c.args.texts.now c.loop-text.text-index c.text-item.result c.loop-text.line.items
    c.extend_from_slice-in-loop-text.new.self.items _ c.text-item.is (omega arith) c.loop-text.invariant
    (c.in_ok-extend_from_slice-2.ensures.items
    ∙ ap (λ l. l ++ c.deref.result.now) c.in_ok-extend_from_slice.ensures.items
    ∙ ap (λ t. (c.loop-text.line.items ++ c.loop-text.lead.now) ++ t) c.deref.ensures.value)
