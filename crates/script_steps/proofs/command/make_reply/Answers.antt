use Rattle.std.proofs.Common.{◌∙◌, refl, sym, ap, subst, inl}
use Rattle.plan_answers.proofs.Laws.{on_err_any}
use Rattle.std.specs.Prelude.{Ok, OnErr, string_bytes}
use Rattle.script_steps.specs.Standings.{StaysOrSteps}
use Rattle.std.specs.Result.{ForErr}
use Rattle.script_lang.specs.Commands as asked
use Rattle.script_lang.specs.Commands.{Asked, asked_of}
use Rattle.recalc_engine.specs.EditAnswers as edits
use Rattle.script_steps.specs.LineSteps.{IsEditStep}
use Rattle.script_steps.specs.LineTexts.{ok_line}
use Rattle.script_steps.specs.private.StepViews.{IsUnmade, ToldDoes}
use Rattle.script_steps.proofs.MadeLemmas.{told_left}
use Rattle.script_steps.proofs.command.make_reply.Goals as goal

pub returns-in-Plan-clause-unmade : goal.returns-in-Plan-clause-unmade
returns-in-Plan-clause-unmade g c =
    let day = c.in-Plan.day in
    let files = ap (λ f. asked.plan day f c.deref-in-Plan.result.now) c.deref.ensures ∙ ap
    (λ l. asked.plan day (string_bytes c.in-Plan.file) l) c.deref-in-Plan.ensures in
    subst (λ (w : Asked). ForErr c.plan.result (IsUnmade (g.F.Files.told c.args.files.now)
    (ToldDoes (g.F.Files.told c.args.files.now) c.args.script.now (Ok w)) w c.args.steps.now c.plan.new.steps
    (g.F.Files.failed c.plan.new.files)))
    (files ∙ sym (ap asked_of c.in-Plan.is)) c.plan.ensures.unmade

pub returns-in-Load-clause-unmade : goal.returns-in-Load-clause-unmade
returns-in-Load-clause-unmade g c =
    subst (λ (w : Asked). ForErr c.load.result (IsUnmade (g.F.Files.told c.args.files.now)
    (ToldDoes (g.F.Files.told c.args.files.now) c.args.script.now (Ok w)) w c.args.steps.now c.load.new.steps
    (g.F.Files.failed c.load.new.files)))
    (ap (λ f. asked.load f) c.deref-in-Load.ensures ∙ sym (ap asked_of c.in-Load.is)) c.load.ensures.unmade

pub returns-in-Open-clause-unmade : goal.returns-in-Open-clause-unmade
returns-in-Open-clause-unmade g c =
    subst (λ (w : Asked). ForErr c.open.result (IsUnmade (g.F.Files.told c.args.files.now)
    (ToldDoes (g.F.Files.told c.args.files.now) c.args.script.now (Ok w)) w c.args.steps.now c.open.new.steps
    (g.F.Files.failed c.open.new.files)))
    (ap (λ f. asked.opening f) c.deref-in-Open.ensures ∙ sym (ap asked_of c.in-Open.is)) c.open.ensures.unmade

pub returns-in-Try-clause-unmade : goal.returns-in-Try-clause-unmade
returns-in-Try-clause-unmade g c =
    let told = g.F.Files.told c.args.files.now in
    let day = c.in-Try.day in
    let files = ap (λ f. asked.trial day f c.deref-in-Try-2.result.now) c.deref-in-Try.ensures
    ∙ ap (λ l. asked.trial day (string_bytes c.in-Try.file) l) c.deref-in-Try-2.ensures in
    subst (λ (w : Asked). ForErr c.trial.result (IsUnmade told (ToldDoes told c.args.script.now (Ok w)) w
    c.args.steps.now c.trial.new.steps (g.F.Files.failed c.trial.new.files)))
    (files ∙ sym (ap asked_of c.in-Try.is)) c.trial.ensures.unmade

pub returns-in-Load-clause-left : goal.returns-in-Load-clause-left
returns-in-Load-clause-left g c =
    subst (λ (w : Asked). OnErr c.load.result (StaysOrSteps (ToldDoes (g.F.Files.told c.args.files.now)
    c.args.script.now (Ok w)) c.args.script.now c.load.new.script))
    (ap (λ f. asked.load f) c.deref-in-Load.ensures ∙ sym (ap asked_of c.in-Load.is)) c.load.ensures.left

pub returns-in-Open-clause-left : goal.returns-in-Open-clause-left
returns-in-Open-clause-left g c =
    subst (λ (w : Asked). OnErr c.open.result (StaysOrSteps (ToldDoes (g.F.Files.told c.args.files.now)
    c.args.script.now (Ok w)) c.args.script.now c.open.new.script))
    (ap (λ f. asked.opening f) c.deref-in-Open.ensures ∙ sym (ap asked_of c.in-Open.is)) c.open.ensures.left

pub returns-in-Plan-clause-left : goal.returns-in-Plan-clause-left
returns-in-Plan-clause-left g c =
    subst (λ (w : Asked). OnErr c.plan.result (StaysOrSteps (ToldDoes (g.F.Files.told c.args.files.now)
    c.args.script.now (Ok w)) c.args.script.now c.plan.new.script))
    (ap (λ f. asked.plan c.in-Plan.day f c.deref-in-Plan.result.now) c.deref.ensures
    ∙ ap (λ l. asked.plan c.in-Plan.day (string_bytes c.in-Plan.file) l) c.deref-in-Plan.ensures
    ∙ sym (ap asked_of c.in-Plan.is)) c.plan.ensures.left

pub returns-in-Try-clause-left : goal.returns-in-Try-clause-left
returns-in-Try-clause-left g c = on_err_any c.trial.result _ (inl refl)

pub returns-in_err-drop_plan-in-Drop-clause-left : goal.returns-in_err-drop_plan-in-Drop-clause-left
returns-in_err-drop_plan-in-Drop-clause-left g c =
    told_left (g.F.Files.told c.args.files.now) c.args.script.now c.drop_plan.new.script _ (asked_of c.args.command)
    (IsEditStep ok_line c.args.script.now (edits.drop _)) _ (sym (ap asked_of c.in-Drop.is)) (λ to a files h. h)
    c.in_err-drop_plan-in-Drop.ensures.left

pub returns-in_err-add-in-Add-clause-left : goal.returns-in_err-add-in-Add-clause-left
returns-in_err-add-in-Add-clause-left g c =
    told_left (g.F.Files.told c.args.files.now) c.args.script.now c.add.new.script _ (asked_of c.args.command)
    (IsEditStep ok_line c.args.script.now (edits.add _)) _ (sym (ap asked_of c.in-Add.is)) (λ to a files h. h)
    c.in_err-add-in-Add.ensures.left

pub returns-in_err-change-in-Change-clause-left : goal.returns-in_err-change-in-Change-clause-left
returns-in_err-change-in-Change-clause-left g c =
    told_left (g.F.Files.told c.args.files.now) c.args.script.now c.change.new.script _ (asked_of c.args.command)
    (IsEditStep ok_line c.args.script.now (edits.change _)) _ (sym (ap asked_of c.in-Change.is)) (λ to a files h. h)
    c.in_err-change-in-Change.ensures.left

pub returns-in_err-withdraw-in-Withdraw-clause-left : goal.returns-in_err-withdraw-in-Withdraw-clause-left
returns-in_err-withdraw-in-Withdraw-clause-left g c =
    told_left (g.F.Files.told c.args.files.now) c.args.script.now c.withdraw.new.script _ (asked_of c.args.command)
    (IsEditStep ok_line c.args.script.now (edits.withdraw _ _)) _ (sym (ap asked_of c.in-Withdraw.is)) (λ to a files h. h)
    c.in_err-withdraw-in-Withdraw.ensures.left
