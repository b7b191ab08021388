use Rattle.std.proofs.Common.{subst}
use Rattle.pap_plan.specs.Judgements.{IsJudgementOf, IsRefusedPlan}
use Rattle.pap_plan.proofs.JudgementLemmas.{refused_or}
use Rattle.pap_plan.proofs.acceptance.accept.Goals as goal

pub returns-in-Ok-Refused-clause-refused : goal.returns-in-Ok-Refused-clause-refused
returns-in-Ok-Refused-clause-refused c =
    let plan = c.args.plan.now in
    let limits = c.args.limits.now in
    let told = c.in-Ok-Refused.refused in
    let is : IsRefusedPlan plan limits told = subst (IsJudgementOf plan limits) c.in-Ok-Refused.field-0-is c.in-Ok-Refused.ensures in
    refused_or plan limits told.refusal is.refused
