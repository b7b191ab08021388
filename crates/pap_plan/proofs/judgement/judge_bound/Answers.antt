use Rattle.std.proofs.Common.{refl}
use Rattle.pap_tree.specs.Flowchart.{flowchart_of}
use Rattle.pap_plan.specs.declared.refusal.PlanRefusal.TheVariants as refusals
use Rattle.pap_plan.proofs.JudgementLemmas.{refused_by_walk}
use Rattle.pap_plan.proofs.judgement.judge_bound.Goals as goal

pub returns : goal.returns
returns c =
    let bound = c.args.bound in
    let refused = c.in-Err.refused in
    refused_by_walk c.args.plan.now c.args.limits.now refused.fault (record { refusal = refusals.Range refused.fault; operands = refused.operands })
    (flowchart_of bound.typed) bound.limits refl c.requires.passed c.in_default.not-Memory c.in-Err.ensures.fault c.in-Err.ensures.operands
