use Rattle.diagnostics.proofs.ReasonLemmas.{three_reasons}
use Rattle.diagnostics.proofs.reasons.slot_reasons.Goals as goal

pub returns : goal.returns
returns c =
    three_reasons c.args.slots.now c.args.values.now c.new-reasons.result.items c.put_unknown.new.reasons.items c.put_missing.new.reasons.items
    c.put_outside.new.reasons.items c.new-reasons.ensures.items c.in_ok-put_unknown.ensures c.in_ok-put_missing.ensures c.in_ok-put_outside.ensures
