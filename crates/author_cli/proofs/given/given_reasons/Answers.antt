use Rattle.std.proofs.Common.{◌≡◌, ◌∙◌, ap}
use Rattle.std.proofs.lemmas.Result.{IfOk-weaker}
use Rattle.pay_run.specs.Accepted.{accepted}
use Rattle.diagnostics.specs.RunReasons.{reasons_by, run_reasons}
use Rattle.author_cli.specs.Given.{unbound_plan}
use Rattle.author_cli.proofs.GivenLemmas.{alone_reasons}
use Rattle.author_cli.proofs.given.given_reasons.Goals as goal

pub returns : goal.returns
returns c =
    let p = accepted c.args.plan.now in
    let values = c.args.values.now in
    IfOk-weaker c.slot_reasons.result (λ reasons. reasons.items ≡ reasons_by c.as_slice.result.now values)
    (λ reasons. reasons.items ≡ run_reasons (unbound_plan p) values)
    (λ reasons is. alone_reasons p c.spec.result.now.slots values reasons.items c.spec.ensures
    (is ∙ ap (λ s. reasons_by s values) (c.as_slice.ensures ∙ c.in_ok-spec.ensures)))
    c.slot_reasons.ensures
