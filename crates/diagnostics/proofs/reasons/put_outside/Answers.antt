use Rattle.std.proofs.Common.{◌++◌, ◌∙◌, ap, take, append_assoc}
use Rattle.std.specs.Option.{option_to_list}
use Rattle.diagnostics.specs.RunReasons.{outside_reasons}
use Rattle.diagnostics.proofs.ReasonLemmas.{outside_more}
use Rattle.diagnostics.proofs.reasons.put_outside.Goals as goal

pub loop-slot-preserved : goal.loop-slot-preserved
loop-slot-preserved c =
    let slots = c.args.slots.now in
    let values = c.args.values.now in
    let l = c.loop-slot in
    let slot = c.slot-item.result in
    let reason = c.outside_reason.result in
    let old = c.args.reasons.now.items in
    let own = option_to_list reason in
    c.in_ok-put_some.ensures ∙ ap (λ t. t ++ own) l.invariant ∙ append_assoc old (outside_reasons (take l.slot-index slots) values) own
    ∙ ap (λ t. old ++ t) (outside_more slots values l.slot-index slot reason c.loop-slot-test.true c.slot-item.is c.outside_reason.ensures)
