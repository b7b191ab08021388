use Rattle.std.proofs.Common.{◌∙◌, refl, ap, subst}
use Rattle.std.proofs.lemmas.Result.{err_from_is_err_and}
use Rattle.std.specs.Prelude.{None, Ok, Err}
use Rattle.script_lang.specs.Commands.{asked_of}
use Rattle.script_lang.specs.Lines.{IsLine}
use Rattle.script_steps.specs.Shown.{shown}
use Rattle.script_steps.specs.private.StepViews.{ToldDoes}
use Rattle.script_steps.proofs.MadeLemmas.{unmade_broken}
use Rattle.script_steps.proofs.UnwrittenLemmas.{made_unwritten, never_write, report_unwritten}
use Rattle.script_steps.proofs.unwritten.refusal_of.Goals as goal

pub returns-in-Report-clause-answered : goal.returns-in-Report-clause-answered
returns-in-Report-clause-answered g c = λ line says.
    report_unwritten (g.F.Files.told c.args.files.now) (g.F.Files.failed c.args.files.now) c.args.steps.now c.args.script.now line
    (subst (λ k. IsLine line (asked_of k)) c.in-Report.is says)

pub returns-in_ok-make_reply-in_default-clause-answered : goal.returns-in_ok-make_reply-in_default-clause-answered
returns-in_ok-make_reply-in_default-clause-answered g c = λ line says.
    made_unwritten (g.F.Files.told c.args.files.now) (g.F.Files.told c.make_reply.new.files)
    (g.F.Files.failed c.args.files.now) (g.F.Files.failed c.make_reply.new.files) c.args.steps.now c.make_reply.new.steps
    c.args.script.now c.make_reply.new.script line (asked_of c.args.command) c.in_ok-make_reply-in_default.field-0
    c.refusal_in.result says c.in_ok-make_reply-in_default.ensures.made c.refusal_in.ensures.mark c.refusal_in.ensures.text

pub returns-in_err-make_reply-in_default-clause-broken : goal.returns-in_err-make_reply-in_default-clause-broken
returns-in_err-make_reply-in_default-clause-broken g c = λ line says.
    let stop = c.in_err-make_reply-in_default.field-0.0 in
    let p = err_from_is_err_and c.from_residual.result c.from_residual.ensures.1 in
    unmade_broken (shown (g.F.Files.told c.args.files.now) (g.F.Files.failed c.args.files.now) None c.args.steps.now)
    (shown (g.F.Files.told c.make_reply.new.files) (g.F.Files.failed c.make_reply.new.files) None c.make_reply.new.steps)
    c.args.script.now c.make_reply.new.script (asked_of c.args.command) stop refl
    (λ e. c.in_err-make_reply-in_default.ensures.unchanged (ap (λ s. Err s) e)) c.in_err-make_reply-in_default.ensures.left
    (c.in_err-make_reply-in_default.ensures.unmade stop refl) c.from_residual.result (p.1 ∙ ap (λ s. Err s) p.2) line says

pub returns-in_err-make_reply-in_default-clause-never : goal.returns-in_err-make_reply-in_default-clause-never
returns-in_err-make_reply-in_default-clause-never g c =
    let stop = c.in_err-make_reply-in_default.field-0.0 in
    let p = err_from_is_err_and c.from_residual.result c.from_residual.ensures.1 in
    never_write (g.F.Files.told c.args.files.now) (ToldDoes (g.F.Files.told c.args.files.now) c.args.script.now (Ok (asked_of c.args.command)))
    (asked_of c.args.command) c.args.steps.now c.make_reply.new.steps (g.F.Files.failed c.make_reply.new.files) stop
    c.from_residual.result (c.in_err-make_reply-in_default.ensures.unmade stop refl) (p.1 ∙ ap (λ s. Err s) p.2)
