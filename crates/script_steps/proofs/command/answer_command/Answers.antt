use Rattle.std.proofs.Common.{◌++◌, ◌∙◌, refl, ap, subst}
use Rattle.script_steps.specs.Shown.{shown_by}
use Rattle.std.specs.Prelude.{Ok, Err, IfOk, is_some}
use Rattle.std.specs.Result.{ForErr}
use Rattle.std.proofs.lemmas.Result.{err_from_is_err_and}
use Rattle.script_lang.specs.Commands as asked
use Rattle.script_lang.specs.Commands.{asked_of}
use Rattle.script_lang.specs.Lines.{IsLine}
use Rattle.script_steps.specs.private.Replies.{reply_of}
use Rattle.script_steps.specs.LineSteps.{report_answer}
use Rattle.report_csv.specs.ReportTexts.{report_text}
use Rattle.script_steps.specs.LineTexts.{end_line}
use Rattle.script_steps.specs.Standings.{Standing}
use Rattle.script_steps.specs.private.StepViews.{IsWritten, IsFrontWritten, ToldDoes}
use Rattle.script_steps.proofs.WriteLemmas.{never_file}
use Rattle.script_steps.proofs.MadeLemmas.{made_answered, made_broken, report_made, unmade_broken, unmade_cause}
use Rattle.script_steps.proofs.command.answer_command.Goals as goal

pub returns-in-Report-clause-answered : goal.returns-in-Report-clause-answered
returns-in-Report-clause-answered g c = λ line says.
    made_answered (shown_by g.F.Files g.W.Sink c.args.files.now c.args.sink.now c.args.steps.now)
    (shown_by g.F.Files g.W.Sink c.args.files.now c.report.new.sink c.args.steps.now) c.args.script.now
    c.args.script.now asked.report (report_answer c.args.script.now)
    (report_made (g.F.Files.told c.args.files.now) c.args.script.now c.args.steps.now) c.report.result
    (subst (λ (s : Standing). IfOk c.report.result (λ wrong. IsWritten (g.W.Sink.written c.args.sink.now)
    (g.W.Sink.written c.report.new.sink) (report_answer s).text (report_answer s).refused (is_some wrong))) c.script.view_is
    c.report.ensures.ok) line (subst (λ k. IsLine line (asked_of k)) c.in-Report.is says)

pub returns-in-Report-clause-broken : goal.returns-in-Report-clause-broken
returns-in-Report-clause-broken g c = λ line says.
    made_broken (shown_by g.F.Files g.W.Sink c.args.files.now c.args.sink.now c.args.steps.now)
    (shown_by g.F.Files g.W.Sink c.args.files.now c.report.new.sink c.args.steps.now) c.args.script.now
    c.args.script.now asked.report (report_answer c.args.script.now)
    (report_made (g.F.Files.told c.args.files.now) c.args.script.now c.args.steps.now) c.report.result
    (subst (λ (s : Standing). ForErr c.report.result (IsFrontWritten (g.W.Sink.written c.args.sink.now)
    (g.W.Sink.written c.report.new.sink) (report_answer s).text)) c.script.view_is c.report.ensures.err) line
    (subst (λ k. IsLine line (asked_of k)) c.in-Report.is says)

pub returns-in_err-reply-in_default-clause-broken : goal.returns-in_err-reply-in_default-clause-broken
returns-in_err-reply-in_default-clause-broken g c = λ line says.
    let stop = c.in_err-reply-in_default.field-0.0 in
    let p = err_from_is_err_and c.from_residual.result c.from_residual.ensures.1 in
    unmade_broken (shown_by g.F.Files g.W.Sink c.args.files.now c.args.sink.now c.args.steps.now)
    (shown_by g.F.Files g.W.Sink c.make_reply.new.files c.args.sink.now c.make_reply.new.steps) c.args.script.now
    c.make_reply.new.script (asked_of c.args.command) stop refl
    (λ e. c.in_err-reply-in_default.ensures.unchanged (ap (λ s. Err s) e)) c.in_err-reply-in_default.ensures.left
    (c.in_err-reply-in_default.ensures.unmade stop refl) c.from_residual.result
    (p.1 ∙ ap (λ s. Err s) p.2) line says

pub returns-in_err-reply-in_default-clause-write : goal.returns-in_err-reply-in_default-clause-write
returns-in_err-reply-in_default-clause-write g c =
    let stop = c.in_err-reply-in_default.field-0.0 in
    let p = err_from_is_err_and c.from_residual.result c.from_residual.ensures.1 in
    unmade_cause (g.F.Files.told c.args.files.now) (ToldDoes (g.F.Files.told c.args.files.now) c.args.script.now
    (Ok (asked_of c.args.command))) (asked_of c.args.command) c.args.steps.now c.make_reply.new.steps
    (g.F.Files.failed c.make_reply.new.files) stop (c.in_err-reply-in_default.ensures.unmade stop refl)
    c.from_residual.result
    (p.1 ∙ ap (λ s. Err s) p.2) (g.W.Sink.faults c.args.sink.now)

pub returns-in_ok-reply-in_default-clause-answered : goal.returns-in_ok-reply-in_default-clause-answered
returns-in_ok-reply-in_default-clause-answered g c = λ line says.
    made_answered (shown_by g.F.Files g.W.Sink c.args.files.now c.args.sink.now c.args.steps.now)
    (shown_by g.F.Files g.W.Sink c.make_reply.new.files c.write_reply.new.sink c.make_reply.new.steps)
    c.args.script.now c.make_reply.new.script (asked_of c.args.command) (reply_of c.in_ok-reply-in_default.reply)
    c.in_ok-reply-in_default.ensures.made c.write_reply.result c.write_reply.ensures.ok line says

pub returns-in_ok-reply-in_default-clause-broken : goal.returns-in_ok-reply-in_default-clause-broken
returns-in_ok-reply-in_default-clause-broken g c = λ line says.
    made_broken (shown_by g.F.Files g.W.Sink c.args.files.now c.args.sink.now c.args.steps.now)
    (shown_by g.F.Files g.W.Sink c.make_reply.new.files c.write_reply.new.sink c.make_reply.new.steps)
    c.args.script.now c.make_reply.new.script (asked_of c.args.command) (reply_of c.in_ok-reply-in_default.reply)
    c.in_ok-reply-in_default.ensures.made c.write_reply.result c.write_reply.ensures.err line says

pub returns-in-Report-clause-file : goal.returns-in-Report-clause-file
returns-in-Report-clause-file g c =
    never_file (IsFrontWritten (g.W.Sink.written c.args.sink.now) (g.W.Sink.written c.report.new.sink)
    (report_text c.script.inside.book ++ end_line)) c.report.result (g.F.Files.faults c.args.files.now) (λ h. h)
    c.report.ensures.err
