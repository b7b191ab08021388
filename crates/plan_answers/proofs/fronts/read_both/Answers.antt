use Rattle.std.proofs.Common.{arith}
use Rattle.plan_answers.proofs.FrontLemmas.{fronts}
use Rattle.plan_answers.proofs.fronts.read_both.Goals as goal

pub returns-clause-read : goal.returns-clause-read
returns-clause-read g c = λ files told.
    let plan = c.in_ok-plan_bytes in
    let limits = c.in_ok-limits_bytes in
    fronts files c.args.plan.now c.args.limits.now plan.plan_bytes.items limits.limits_bytes.items
    plan.ensures.same plan.ensures.front (grind arith) limits.ensures.same limits.ensures.front (grind arith)
