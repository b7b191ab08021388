use Rattle.std.proofs.Common.{sym, ap, subst, ◌∙◌}
use Rattle.std.specs.Prelude.{◌≢◌, IsTrue, None, is_some}
use Rattle.script_steps.specs.OpenSteps.{IsEmpty, not_empty, filed}
use Rattle.script_steps.specs.Standings.{Standing}
use Rattle.script_steps.proofs.OpenLemmas.{open_refused, some_there}
use Rattle.script_steps.proofs.open.open_text.Goals as goal

pub returns-then-not-is_empty-clause-made : goal.returns-then-not-is_empty-clause-made
returns-then-not-is_empty-clause-made g c =
    open_refused c.args.script.now c.args.text.now c.args.steps.now not_empty c.unopened.result
    (subst (λ (s : Standing). IsEmpty s.book → ⊥) c.script.view_is
    (λ h. let t = c.is_empty.ensures.1 h in let n = c.if-not-is_empty.true in cc)) c.unopened.ensures

pub returns-then-is_some-clause-made : goal.returns-then-is_some-clause-made
returns-then-is_some-clause-made g c =
    let n = c.if-not-is_empty.false in
    let t : IsTrue c.is_empty.result = cc in
    let last = ap is_some (sym c.last.ensures) ∙ sym c.is_some.ensures ∙ c.if-is_some.true in
    open_refused c.args.script.now c.args.text.now c.args.steps.now filed c.unopened-then-is_some.result
    (subst (λ (s : Standing). IsEmpty s.book × (s.filings.last ≢ None)) c.script.view_is
    (c.is_empty.ensures.0 t, some_there c.script.inside.ledger.last last)) c.unopened-then-is_some.ensures
