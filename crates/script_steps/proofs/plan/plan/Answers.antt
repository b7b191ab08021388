use Rattle.std.proofs.Common.{◌∙◌, refl, ap}
use Rattle.std.specs.Prelude.{Ok, Err}
use Rattle.plan_answers.proofs.Laws.{on_err_any}
use Rattle.std.proofs.lemmas.Result.{err_from_is_err_and}
use Rattle.script_lang.specs.Commands as asked
use Rattle.script_steps.specs.private.Replies.{reply_of}
use Rattle.script_steps.specs.LineSteps.{IsPut, IsTextsStep}
use Rattle.script_steps.specs.private.StepViews.{ToldDoes}
use Rattle.script_steps.proofs.FileLemmas.{plan_told}
use Rattle.script_steps.proofs.MadeLemmas.{made_map, stays_map, want_map, unjudged, wanting}
use Rattle.script_steps.proofs.plan.plan.Goals as goal

pub returns-in_err-judged-clause-unmade : goal.returns-in_err-judged-clause-unmade
returns-in_err-judged-clause-unmade g c =
    let what = asked.plan c.args.day c.args.plan.now c.args.limits.now in
    let told = g.F.Files.told c.args.files.now in
    let stop = c.in_err-judged.field-0.0 in
    let p = err_from_is_err_and c.from_residual.result c.from_residual.ensures.1 in
    unjudged (ToldDoes told c.args.script.now (Ok what)) what c.args.plan.now c.args.limits.now c.args.steps.now told
    (g.F.Files.failed c.judge.new.files) (λ name h. h) (λ files name h. h) stop
    (c.in_err-judged.ensures.unjudged stop refl) c.from_residual.result (p.1 ∙ ap (λ s. Err s) p.2)

pub returns-in_err-put-clause-unmade : goal.returns-in_err-put-clause-unmade
returns-in_err-put-clause-unmade g c =
    let what = asked.plan c.args.day c.args.plan.now c.args.limits.now in
    let told = g.F.Files.told c.args.files.now in
    let from = c.args.script.now in
    let j = c.in_ok-judged.ensures.judged in
    let p = err_from_is_err_and c.from_residual-in_err-put.result c.from_residual-in_err-put.ensures.1 in
    wanting told (ToldDoes told from (Ok what)) what c.args.steps.now c.put.new.steps
    (g.F.Files.failed c.judge.new.files) c.from_residual-in_err-put.result (p.1 ∙ ap (λ s. Err s) p.2)
    (want_map (IsTextsStep IsPut from c.args.day j.plan_front j.limits_front) (ToldDoes told from (Ok what))
    c.args.steps.now c.put.new.steps
    (plan_told IsPut told from c.args.day c.args.plan.now c.args.limits.now c.in_ok-judged.judged j)
    (c.in_err-put.ensures.lost j.plan_front j.limits_front j.is))

pub returns-clause-made : goal.returns-clause-made
returns-clause-made g c =
    let what = asked.plan c.args.day c.args.plan.now c.args.limits.now in
    let told = g.F.Files.told c.args.files.now in
    let from = c.args.script.now in
    let j = c.in_ok-judged.ensures.judged in
    made_map (IsTextsStep IsPut from c.args.day j.plan_front j.limits_front) (ToldDoes told from (Ok what))
    c.put.new.script c.args.steps.now c.put.new.steps (reply_of c.in_ok-put.field-0)
    (plan_told IsPut told from c.args.day c.args.plan.now c.args.limits.now c.in_ok-judged.judged j)
    (c.in_ok-put.ensures.made j.plan_front j.limits_front j.is)

pub returns-in_err-put-clause-left : goal.returns-in_err-put-clause-left
returns-in_err-put-clause-left g c =
    let what = asked.plan c.args.day c.args.plan.now c.args.limits.now in
    let told = g.F.Files.told c.args.files.now in
    let from = c.args.script.now in
    let j = c.in_ok-judged.ensures.judged in
    on_err_any c.from_residual-in_err-put.result _
    (stays_map (IsTextsStep IsPut from c.args.day j.plan_front j.limits_front) (ToldDoes told from (Ok what)) from
    c.put.new.script (plan_told IsPut told from c.args.day c.args.plan.now c.args.limits.now c.in_ok-judged.judged j)
    (c.in_err-put.ensures.left j.plan_front j.limits_front j.is))
