use Rattle.std.proofs.Common.{◌≢◌, rules}
use Rattle.pap_plan.specs.declared.refusal.PlanRefusal.TheVariants as refusals
use Rattle.pap_plan.proofs.JudgementLemmas.{refused_early}
use Rattle.pap_plan.proofs.judgement.judge_plan.Goals as goal

pub returns-in-Err : goal.returns-in-Err
returns-in-Err c =
    let refusal = c.in-Err.refusal in
    let other : refusal ≢ refusals.Memory = search rules in
    refused_early c.args.plan.now c.args.limits.now (record { refusal = refusal; operands = c.new.result }) other c.in-Err.ensures.refused c.new.ensures.items
