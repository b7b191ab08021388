use Rattle.std.proofs.Common.{[], sym, ◌∙◌}
use Rattle.std.proofs.lemmas.Bool.{OnFalse_at, OnFalse_from}
use Rattle.pay_run.specs.Accepted.{accepted}
use Rattle.pay_run.specs.Runs.{ReadsNothing}
use Rattle.pay_run.proofs.RunLemmas.{filled_slots}
use Rattle.pay_run.proofs.inputs.reads_earlier.Goals as goal

pub returns : goal.returns
returns c =
    let p = accepted c.args.plan.now in
    let slots = c.spec.result.now.slots in
    OnFalse_from c.reads_earlier.result (ReadsNothing p) (λ none values earlier.
    sym (filled_slots p slots values earlier c.spec.ensures)
    ∙ OnFalse_at none c.reads_earlier.ensures.none values earlier
    ∙ filled_slots p slots values [] c.spec.ensures)
