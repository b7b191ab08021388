use Rattle.std.proofs.Common.{◌∙◌, sym, ap, subst}
use Rattle.std.specs.Prelude.{Ok}
use Rattle.script_steps.specs.Shown.{shown}
use Rattle.pap_cli.specs.FileClauses.{LeavesOnFiles}
use Rattle.script_run.specs.Notes.{notes_shown}
use Rattle.pap_cli.specs.Statuses.{status_of}
use Rattle.pap_cli.specs.private.AnswerViews.{answers_of}
use Rattle.pap_cli.proofs.ReasonLemmas.{nothing_put, ok_same, put_on}
use Rattle.pap_cli.proofs.answer.answer.Goals as goal

pub returns-in-Ok-clause-leaves : goal.returns-in-Ok-clause-leaves
returns-in-Ok-clause-leaves g c =
    let left = c.in-Ok.ensures.leaves in
    subst (λ r. LeavesOnFiles (answers_of c.args.request.command) c.args.request.plan.now c.args.request.limits.now
    (shown (g.F.Files.told c.args.files.now) (g.F.Files.failed c.args.files.now) (g.W.Sink.written c.args.sink.now) c.args.steps.now)
    (shown (g.F.Files.told c.write_answer.new.files) (g.F.Files.failed c.write_answer.new.files) (g.W.Sink.written c.write_answer.new.sink) c.write_answer.new.steps)
    (status_of (Ok r))) (sym c.put_reason.ensures.marked) left

pub returns-in-Ok-clause-reason : goal.returns-in-Ok-clause-reason
returns-in-Ok-clause-reason g c = λ e.
    put_on c.in-Ok.reason c.args.request.command c.args.request.plan.now c.args.request.limits.now (g.F.Files.told c.args.files.now)
    (notes_shown g.N.Sink c.args.notes.now) (notes_shown g.N.Sink c.put_reason.new.notes)
    (sym c.put_reason.ensures.marked ∙ ok_same e) c.in-Ok.ensures.reason c.put_reason.ensures.put

pub returns-in-Ok-clause-silent : goal.returns-in-Ok-clause-silent
returns-in-Ok-clause-silent g c = λ other.
    c.put_reason.ensures.silent (nothing_put c.in-Ok.reason (λ e. other (ap (λ r. Ok r) (c.put_reason.ensures.marked ∙ e))))

pub returns-in-Err-clause-leaves : goal.returns-in-Err-clause-leaves
returns-in-Err-clause-leaves g c = c.in-Err.ensures.leaves
