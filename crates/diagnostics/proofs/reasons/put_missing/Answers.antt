use Rattle.std.proofs.Common.{[], ◌∷◌, ◌++◌, ◌∙◌, ap, take, cond, append_assoc}
use Rattle.std.specs.Prelude.{is_none}
use Rattle.plain_words.specs.declared.state.RunReason.TheVariants as whys
use Rattle.diagnostics.specs.RunReasons.{missing_reasons}
use Rattle.diagnostics.proofs.ReasonLemmas.{missing_more, none_told}
use Rattle.diagnostics.proofs.reasons.put_missing.Goals as goal

pub loop-slot-preserved : goal.loop-slot-preserved
loop-slot-preserved c =
    let slots = c.args.slots.now in
    let values = c.args.values.now in
    let l = c.loop-slot in
    let slot = c.slot-item.result in
    let old = c.args.reasons.now.items in
    let own = cond c.is_none.result (whys.Missing slot.name ∷ []) [] in
    c.in_ok-put_if.ensures ∙ ap (λ t. t ++ own) l.invariant ∙ append_assoc old (missing_reasons (take l.slot-index slots) values) own
    ∙ ap (λ t. old ++ t) (missing_more slots values l.slot-index slot c.is_none.result c.loop-slot-test.true c.slot-item.is (none_told c.value_of-value.result c.is_none.result c.is_none.ensures ∙ ap (λ o. is_none o) c.value_of-value.ensures))
