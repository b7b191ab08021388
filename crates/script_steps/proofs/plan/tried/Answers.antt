use Rattle.std.proofs.Common.{subst}
use Rattle.std.specs.Prelude.{string_bytes}
use Rattle.book_year.specs.Accepted.{accepted}
use Rattle.script_steps.specs.LineSteps.{IsTrialStep}
use Rattle.script_steps.specs.private.PlanViews.{IsJudged}
use Rattle.script_steps.proofs.PlanLemmas.{refused, tried_made, tried_lost}
use Rattle.script_steps.proofs.TrialLemmas.{trial_made, trial_lost}
use Rattle.script_steps.proofs.plan.tried.Goals as goal

pub returns-in-Accepted-clause-made : goal.returns-in-Accepted-clause-made
returns-in-Accepted-clause-made g c = λ plan limits j.
    let p = c.in-Accepted.plan in
    let bound = string_bytes c.in-Accepted.line in
    let judged = subst (IsJudged plan limits) c.in-Accepted.is j in
    tried_made c.args.script.now c.args.day plan limits p bound judged.0 judged.1 c.args.steps.now
    c.try_plan-trial.new.steps c.args.script.now c.trial_reply.result
    (trial_made c.args.script.now c.script.inside.ledger c.script.inside.made c.script.inside.book c.script.view_is
    (c.args.day, accepted p) c.args.steps.now c.try_plan-trial.new.steps c.try_plan-trial.result c.trial_reply.result
    c.try_plan-trial.ensures.can c.try_plan-trial.ensures.refused c.try_plan-trial.ensures.counted
    bound judged.1 c.try_plan-trial.ensures.ok c.trial_reply.ensures)

pub returns-in-Accepted-clause-lost : goal.returns-in-Accepted-clause-lost
returns-in-Accepted-clause-lost g c = λ plan limits j.
    let p = c.in-Accepted.plan in
    let bound = string_bytes c.in-Accepted.line in
    let judged = subst (IsJudged plan limits) c.in-Accepted.is j in
    tried_lost c.args.script.now c.args.day plan limits p bound judged.0 judged.1 c.args.steps.now c.try_plan-trial.new.steps
    c.trial_reply.result
    (trial_lost c.args.script.now c.script.inside.ledger c.script.inside.made c.script.inside.book c.script.view_is
    (c.args.day, accepted p) c.args.steps.now c.try_plan-trial.new.steps c.try_plan-trial.result c.trial_reply.result
    c.try_plan-trial.ensures.can c.try_plan-trial.ensures.refused c.try_plan-trial.ensures.counted)

pub returns-in-Refused-clause-made : goal.returns-in-Refused-clause-made
returns-in-Refused-clause-made g c = λ plan limits j.
    refused c.args.script.now c.args.day plan limits IsTrialStep c.args.steps.now c.in-Refused.reply
    (subst (IsJudged plan limits) c.in-Refused.is j)
