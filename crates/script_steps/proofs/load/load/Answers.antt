use Rattle.std.proofs.Common.{◌∙◌, refl, sym, ap, subst}
use Rattle.std.specs.Prelude.{Ok, Err}
use Rattle.plan_answers.proofs.Laws.{on_err_any}
use Rattle.std.proofs.lemmas.Result.{err_from_is_err_and}
use Rattle.outside.specs.Told.{IsToldFront}
use Rattle.script_lang.specs.Commands as asked
use Rattle.script_steps.specs.private.Replies.{reply_of}
use Rattle.script_steps.specs.LineSteps.{IsTableStep}
use Rattle.script_steps.specs.private.StepViews.{ToldDoes}
use Rattle.script_steps.proofs.FileLemmas.{load_told}
use Rattle.script_steps.proofs.MadeLemmas.{made_map, stays_map, want_map, unread, wanting}
use Rattle.script_steps.proofs.load.load.Goals as goal

pub returns-in_err-table-clause-unmade : goal.returns-in_err-table-clause-unmade
returns-in_err-table-clause-unmade g c =
    let what = asked.load c.args.file.now in
    let p = err_from_is_err_and c.from_residual.result c.from_residual.ensures.1 in
    unread (g.F.Files.told c.args.files.now) (ToldDoes (g.F.Files.told c.args.files.now) c.args.script.now (Ok what))
    what c.args.steps.now c.args.steps.now (g.F.Files.failed c.read_front.new.self) c.from_residual.result
    c.in_err-table.field-0.0 c.args.file.now
    (p.1 ∙ ap (λ s. Err s) p.2) refl (λ e. (
      refl,
      c.in_err-table.ensures.cause.named (ap (λ f. Err f) e),
      λ files t.
          refl,
    ))

pub returns-in_err-load_table-clause-unmade : goal.returns-in_err-load_table-clause-unmade
returns-in_err-load_table-clause-unmade g c =
    let what = asked.load c.args.file.now in
    let told = g.F.Files.told c.args.files.now in
    let front = c.deref.result.now in
    let read = subst (λ b. IsToldFront told c.args.file.now 33554433 b) (sym c.deref.ensures.value)
    c.in_ok-table.ensures.front in
    let p = err_from_is_err_and c.from_residual-in_err-load_table.result c.from_residual-in_err-load_table.ensures.1
    in
    wanting told (ToldDoes told c.args.script.now (Ok what)) what c.args.steps.now c.load_table.new.steps
    (g.F.Files.failed c.read_front.new.self) c.from_residual-in_err-load_table.result
    (p.1 ∙ ap (λ s. Err s) p.2)
    (want_map (IsTableStep c.args.script.now front) (ToldDoes told c.args.script.now (Ok what)) c.args.steps.now
    c.load_table.new.steps (load_told told c.args.script.now c.args.file.now front read)
    c.in_err-load_table.ensures.lost)

pub returns-clause-made : goal.returns-clause-made
returns-clause-made g c =
    let what = asked.load c.args.file.now in
    let told = g.F.Files.told c.args.files.now in
    let front = c.deref.result.now in
    let read = subst (λ b. IsToldFront told c.args.file.now 33554433 b) (sym c.deref.ensures.value)
    c.in_ok-table.ensures.front in
    made_map (IsTableStep c.args.script.now front) (ToldDoes told c.args.script.now (Ok what)) c.load_table.new.script
    c.args.steps.now c.load_table.new.steps (reply_of c.in_ok-load_table.field-0)
    (load_told told c.args.script.now c.args.file.now front read) c.in_ok-load_table.ensures.made

pub returns-in_err-load_table-clause-left : goal.returns-in_err-load_table-clause-left
returns-in_err-load_table-clause-left g c =
    let what = asked.load c.args.file.now in
    let told = g.F.Files.told c.args.files.now in
    let front = c.deref.result.now in
    let read = subst (λ b. IsToldFront told c.args.file.now 33554433 b) (sym c.deref.ensures.value)
    c.in_ok-table.ensures.front in
    on_err_any c.from_residual-in_err-load_table.result _
    (stays_map (IsTableStep c.args.script.now front) (ToldDoes told c.args.script.now (Ok what)) c.args.script.now
    c.load_table.new.script (load_told told c.args.script.now c.args.file.now front read)
    c.in_err-load_table.ensures.left)
