use Rattle.std.proofs.Common.{◌∙◌, refl, ap}
use Rattle.std.specs.Prelude.{Ok, Err}
use Rattle.std.proofs.lemmas.Result.{err_from_is_err_and}
use Rattle.script_lang.specs.Commands as asked
use Rattle.script_steps.specs.private.Replies.{reply_of}
use Rattle.script_steps.specs.LineSteps.{IsTrialStep, IsTextsStep}
use Rattle.script_steps.specs.private.StepViews.{ToldDoes}
use Rattle.script_steps.proofs.FileLemmas.{plan_told}
use Rattle.script_steps.proofs.MadeLemmas.{made_map, want_map, unjudged, wanting}
use Rattle.script_steps.proofs.plan.trial.Goals as goal

pub returns-in_err-judged-clause-unmade : goal.returns-in_err-judged-clause-unmade
returns-in_err-judged-clause-unmade g c =
    let what = asked.trial c.args.day c.args.plan.now c.args.limits.now in
    let told = g.F.Files.told c.args.files.now in
    let stop = c.in_err-judged.field-0.0 in
    let p = err_from_is_err_and c.from_residual.result c.from_residual.ensures.1 in
    unjudged (ToldDoes told c.args.script.now (Ok what)) what c.args.plan.now c.args.limits.now c.args.steps.now told
    (g.F.Files.failed c.judge.new.files) (λ name h. h) (λ files name h. h) stop
    (c.in_err-judged.ensures.unjudged stop refl) c.from_residual.result (p.1 ∙ ap (λ s. Err s) p.2)

pub returns-in_err-tried-clause-unmade : goal.returns-in_err-tried-clause-unmade
returns-in_err-tried-clause-unmade g c =
    let what = asked.trial c.args.day c.args.plan.now c.args.limits.now in
    let told = g.F.Files.told c.args.files.now in
    let from = c.args.script.now in
    let j = c.in_ok-judged.ensures.judged in
    let p = err_from_is_err_and c.from_residual-in_err-tried.result c.from_residual-in_err-tried.ensures.1 in
    wanting told (ToldDoes told from (Ok what)) what c.args.steps.now c.tried.new.steps
    (g.F.Files.failed c.judge.new.files) c.from_residual-in_err-tried.result (p.1 ∙ ap (λ s. Err s) p.2)
    (want_map (IsTextsStep IsTrialStep from c.args.day j.plan_front j.limits_front) (ToldDoes told from (Ok what))
    c.args.steps.now c.tried.new.steps
    (plan_told IsTrialStep told from c.args.day c.args.plan.now c.args.limits.now c.in_ok-judged.judged j)
    (c.in_err-tried.ensures.lost j.plan_front j.limits_front j.is))

pub returns-clause-made : goal.returns-clause-made
returns-clause-made g c =
    let what = asked.trial c.args.day c.args.plan.now c.args.limits.now in
    let told = g.F.Files.told c.args.files.now in
    let from = c.args.script.now in
    let j = c.in_ok-judged.ensures.judged in
    made_map (IsTextsStep IsTrialStep from c.args.day j.plan_front j.limits_front) (ToldDoes told from (Ok what))
    c.args.script.now c.args.steps.now c.tried.new.steps (reply_of c.in_ok-tried.field-0)
    (plan_told IsTrialStep told from c.args.day c.args.plan.now c.args.limits.now c.in_ok-judged.judged j)
    (c.in_ok-tried.ensures.made j.plan_front j.limits_front j.is)
