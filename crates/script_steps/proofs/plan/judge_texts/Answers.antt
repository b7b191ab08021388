use Rattle.std.proofs.Common.{subst}
use Rattle.pap_plan.specs.AcceptanceClauses.{IsAcceptedAs}
use Rattle.pap_plan.specs.Judgements.{IsJudgementOf, IsRefusedPlan}
use Rattle.pap_plan.proofs.Laws.{refused_or}
use Rattle.script_steps.proofs.plan.judge_texts.Goals as goal

pub refused_plan-requires : goal.refused_plan-requires
refused_plan-requires c =
    subst (IsJudgementOf c.args.plan.bytes.now c.args.limits.bytes.now) c.in-Refused.is c.in_ok-accepted.ensures

pub returns-in_ok-line-in-Accepted : goal.returns-in_ok-line-in-Accepted
returns-in_ok-line-in-Accepted c =
    let plan = c.args.plan.bytes.now in
    let limits = c.args.limits.bytes.now in
    let is : IsAcceptedAs plan limits c.in-Accepted.accepted = subst (IsJudgementOf plan limits) c.in-Accepted.is c.in_ok-accepted.ensures in
    (is, c.in_ok-line-in-Accepted.ensures)

pub returns-in_ok-refused_plan-in-Refused : goal.returns-in_ok-refused_plan-in-Refused
returns-in_ok-refused_plan-in-Refused c =
    let plan = c.args.plan.bytes.now in
    let limits = c.args.limits.bytes.now in
    let told = c.in-Refused.refused in
    let is : IsRefusedPlan plan limits told = subst (IsJudgementOf plan limits) c.in-Refused.is c.in_ok-accepted.ensures in
    (told.refusal, refused_or plan limits told.refusal is.refused, c.in_ok-refused_plan-in-Refused.ensures)
