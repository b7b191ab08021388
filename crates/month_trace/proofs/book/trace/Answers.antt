use Rattle.std.proofs.Common.{ap, ◌∙◌}
use Rattle.std.specs.Option.{ok_or}
use Rattle.recalc_engine.specs.Jobs.{lent_job}
use Rattle.month_trace.specs.declared.refusal.TraceRefusal.TheVariants.{NotDone}
use Rattle.month_trace.proofs.AnswerLemmas.{has_steps, of_job}
use Rattle.month_trace.proofs.BookLemmas.{memory_only}
use Rattle.month_trace.proofs.book.trace.Goals as goal

pub returns-clause-ok : goal.returns-clause-ok
returns-clause-ok c =
    of_job c.args.b.now c.args.employee c.args.when c.in_ok-key.key c.in_ok-key.ensures (lent_job c.in-Some.job)
    c.in-Some.ensures.job
    ∙ ap (λ o. ok_or o (NotDone c.in_ok-key.key)) c.in_ok-steps.ensures.ok

pub returns-in_err-steps-clause-refused : goal.returns-in_err-steps-clause-refused
returns-in_err-steps-clause-refused c =
    let book = c.args.b.now in
    memory_only book c.args.employee c.args.when c.from_residual-in_err-steps.result c.in_err-steps.field-0.0
    c.from_residual-in_err-steps.ensures.1
    (has_steps book c.args.employee c.args.when c.in_ok-key.key c.in_ok-key.ensures (lent_job c.in-Some.job)
    c.in-Some.ensures.job c.in_err-steps.ensures.there)
