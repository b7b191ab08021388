use Rattle.std.proofs.Common.{[], ◌∷◌, ◌++◌, ◌∙◌, refl, sym, ap, take, cond, append_assoc, add-one, arith}
use Rattle.std.specs.Prelude.{not}
use Rattle.std.proofs.Math.ListN.{length-map}
use Rattle.payroll_records.specs.NamedValues.{name_of}
use Rattle.diagnostics.specs.RunReasons.{unknown_reasons, untaken_reason}
use Rattle.diagnostics.proofs.ReasonLemmas.{unknown_more}
use Rattle.diagnostics.proofs.reasons.put_unknown.Goals as goal

pub loop-name-preserved : goal.loop-name-preserved
loop-name-preserved c =
    let slots = c.args.slots.now in
    let values = c.args.values.now in
    let l = c.loop-name in
    let name = c.name-item.result in
    let within = rw c.names-name-items.ensures.all at c.loop-name-test.true in
    let is = rw c.names-name-items.ensures.all at c.name-item.is in
    let old = c.args.reasons.now.items in
    let own = cond (not c.takes.result) (c.untaken_reason.result ∷ []) [] in
    let more = unknown_more slots values l.name-index name (omega (arith, within, length-map values name_of)) is in
    c.in_ok-put_if.ensures ∙ ap (λ t. t ++ own) l.invariant ∙ append_assoc old (unknown_reasons slots (take l.name-index values)) own
    ∙ ap (λ t. old ++ t) (ap (λ r. unknown_reasons slots (take l.name-index values) ++ cond (not c.takes.result) (r ∷ []) []) c.untaken_reason.ensures
    ∙ ap (λ b. unknown_reasons slots (take l.name-index values) ++ cond (not b) (untaken_reason slots name ∷ []) []) c.takes.ensures ∙ sym more)
    ∙ rw add-one refl
