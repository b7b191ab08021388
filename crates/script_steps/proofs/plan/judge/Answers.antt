use Rattle.std.proofs.Common.{subst}
use Rattle.script_steps.specs.private.PlanViews.{IsJudged}
use Rattle.script_steps.proofs.plan.judge.Goals as goal

pub returns-clause-judged : goal.returns-clause-judged
returns-clause-judged g c =
    let judged = c.in_ok-judge_texts.field-0 in
    let plan = c.in_ok-plan_bytes.plan_bytes.items in
    let limits = c.in_ok-plan_bytes.limits_bytes.items in
    record {
      plan_front = plan;
      limits_front = limits;
      read = c.in_ok-plan_bytes.ensures.read;
      is = subst (λ b. IsJudged plan b judged) c.deref-2.ensures.value
          (subst (λ b. IsJudged b c.deref-2.result.now judged) c.deref.ensures.value c.in_ok-judge_texts.ensures);
    }
