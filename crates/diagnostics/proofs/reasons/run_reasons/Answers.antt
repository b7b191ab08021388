use Rattle.std.proofs.Common.{◌≡◌, ◌∙◌, ap}
use Rattle.std.proofs.lemmas.Result.{IfOk-weaker}
use Rattle.pay_run.specs.Accepted.{accepted}
use Rattle.diagnostics.specs.RunReasons.{reasons_by, run_reasons}
use Rattle.diagnostics.proofs.ReasonLemmas.{slots_reasons}
use Rattle.diagnostics.proofs.reasons.run_reasons.Goals as goal

pub returns : goal.returns
returns c =
    let p = accepted c.args.plan.now in
    let values = c.args.values.now in
    IfOk-weaker c.slot_reasons.result (λ reasons. reasons.items ≡ reasons_by c.as_slice.result.now values) (λ reasons. reasons.items ≡ run_reasons p values)
    (λ reasons is. slots_reasons p c.spec.result.now.slots values reasons.items c.spec.ensures (is ∙ ap (λ s. reasons_by s values) c.as_slice.ensures))
    c.slot_reasons.ensures
