use Rattle.std.proofs.Common.{◌∙◌, ap, subst}
use Rattle.std.specs.Prelude.{Err, IfSome, string_bytes}
use Rattle.std.proofs.lemmas.Result.{err_from_is_err_and}
use Rattle.outside.specs.Told.{Appends, AppendsShort}
use Rattle.pap_cli.specs.private.AnswerViews.{answer_of, answers_of, refused_of}
use Rattle.pap_cli.specs.private.ReasonViews.{TellsOn}
use Rattle.pap_cli.specs.FileClauses.{IsCounted}
use Rattle.pap_cli.specs.Reasons.{IsReasonOn, files_on}
use Rattle.pap_cli.proofs.FrontLemmas.{answers_both}
use Rattle.pap_cli.proofs.LeavesLemmas.{leaves_answer, leaves_want, leaves_whole, leaves_cut}
use Rattle.pap_cli.proofs.ReasonLemmas.{if_some_map, reason_on}
use Rattle.pap_cli.proofs.answer.write_answer.Goals as goal

pub returns-in_err-plan_bytes-clause-leaves : goal.returns-in_err-plan_bytes-clause-leaves
returns-in_err-plan_bytes-clause-leaves g c =
    let p = err_from_is_err_and c.from_residual.result c.from_residual.ensures.1 in
    leaves_answer (answers_of c.args.request.command) c.args.request.plan.now c.args.request.limits.now (g.F.Files.told c.args.files.now) (g.F.Files.told c.read_both.new.files) (g.F.Files.failed c.args.files.now) (g.F.Files.failed c.read_both.new.files) (g.W.Sink.written c.args.sink.now) c.args.steps.now c.in_err-plan_bytes.field-0.0
    (λ e. c.in_err-plan_bytes.ensures.failed (ap (λ f. Err f) e)) (λ e. c.in_err-plan_bytes.ensures.kept_memory (ap (λ f. Err f) e)) (refused_of c.from_residual.result) (ap refused_of (p.1 ∙ ap (λ s. Err s) p.2))

pub returns-in_err-reply-clause-leaves : goal.returns-in_err-reply-clause-leaves
returns-in_err-reply-clause-leaves g c =
    let p = err_from_is_err_and c.from_residual-in_err-reply.result c.from_residual-in_err-reply.ensures.1 in
    let cmd = c.args.request.command in
    let first = subst (λ b. IsCounted (answers_of cmd b c.deref-2.result.now) c.args.steps.now c.reply_on_bytes.new.steps) c.deref.ensures.value c.in_err-reply.ensures.memory in
    let both = subst (λ b. IsCounted (answers_of cmd c.in_ok-plan_bytes.plan_bytes.items b) c.args.steps.now c.reply_on_bytes.new.steps) c.deref-2.ensures.value first in
    leaves_want cmd c.args.request.plan.now c.args.request.limits.now c.in_ok-plan_bytes.plan_bytes.items c.in_ok-plan_bytes.limits_bytes.items (g.F.Files.told c.args.files.now) (g.F.Files.told c.read_both.new.files) (g.F.Files.failed c.args.files.now) (g.F.Files.failed c.read_both.new.files) (g.W.Sink.written c.args.sink.now) c.args.steps.now c.reply_on_bytes.new.steps
    c.in_ok-plan_bytes.ensures.kept c.in_ok-plan_bytes.ensures.read both (refused_of c.from_residual-in_err-reply.result) (ap refused_of (p.1 ∙ ap (λ s. Err s) p.2))

pub returns-in-Ok-clause-leaves : goal.returns-in-Ok-clause-leaves
returns-in-Ok-clause-leaves g c =
    let cmd = c.args.request.command in
    let reply = c.in_ok-reply.reply in
    let first = subst (λ b. answers_of cmd b c.deref-2.result.now (answer_of reply)) c.deref.ensures.value c.in_ok-reply.ensures.answer in
    let both = subst (λ b. answers_of cmd c.in_ok-plan_bytes.plan_bytes.items b (answer_of reply)) c.deref-2.ensures.value first in
    let text = c.deref-3.ensures.value in
    leaves_whole (answers_of cmd) c.args.request.plan.now c.args.request.limits.now (g.F.Files.told c.args.files.now) (g.F.Files.told c.read_both.new.files) (g.F.Files.failed c.args.files.now) (g.F.Files.failed c.read_both.new.files) (g.W.Sink.written c.args.sink.now) (g.W.Sink.written c.put_all.new.sink) c.args.steps.now c.reply_on_bytes.new.steps (answer_of reply)
    (λ files e. answers_both cmd c.args.request.plan.now c.args.request.limits.now c.in_ok-plan_bytes.plan_bytes.items c.in_ok-plan_bytes.limits_bytes.items files (answer_of reply) (c.in_ok-plan_bytes.ensures.read files e) both)
    c.in_ok-reply.ensures.counted c.in_ok-plan_bytes.ensures.kept (subst (λ t. Appends (g.W.Sink.written c.args.sink.now) (g.W.Sink.written c.put_all.new.sink) t) text c.in-Ok.ensures.ok)

pub returns-clause-leaves : goal.returns-clause-leaves
returns-clause-leaves g c =
    let cmd = c.args.request.command in
    let reply = c.in_ok-reply.reply in
    let first = subst (λ b. answers_of cmd b c.deref-2.result.now (answer_of reply)) c.deref.ensures.value c.in_ok-reply.ensures.answer in
    let both = subst (λ b. answers_of cmd c.in_ok-plan_bytes.plan_bytes.items b (answer_of reply)) c.deref-2.ensures.value first in
    let text = c.deref-3.ensures.value in
    leaves_cut (answers_of cmd) c.args.request.plan.now c.args.request.limits.now (g.F.Files.told c.args.files.now) (g.F.Files.told c.read_both.new.files) (g.F.Files.failed c.args.files.now) (g.F.Files.failed c.read_both.new.files) (g.W.Sink.written c.args.sink.now) (g.W.Sink.written c.put_all.new.sink) c.args.steps.now c.reply_on_bytes.new.steps (answer_of reply)
    (λ files e. answers_both cmd c.args.request.plan.now c.args.request.limits.now c.in_ok-plan_bytes.plan_bytes.items c.in_ok-plan_bytes.limits_bytes.items files (answer_of reply) (c.in_ok-plan_bytes.ensures.read files e) both)
    c.in_ok-reply.ensures.counted c.in_ok-plan_bytes.ensures.kept (subst (λ t. AppendsShort (g.W.Sink.written c.args.sink.now) (g.W.Sink.written c.put_all.new.sink) t) text c.in-Err.ensures.err)

pub returns-in-Ok-clause-reason : goal.returns-in-Ok-clause-reason
returns-in-Ok-clause-reason g c =
    let cmd = c.args.request.command in
    let plan = c.args.request.plan.now in
    let limits = c.args.request.limits.now in
    let reply = c.in_ok-reply.reply in
    let bytes = c.in_ok-plan_bytes.plan_bytes.items in
    let ranges = c.in_ok-plan_bytes.limits_bytes.items in
    let first = subst (λ b. IfSome reply.reason (λ text. TellsOn cmd (files_on plan limits b c.deref-2.result.now) (string_bytes text))) c.deref.ensures.value c.in_ok-reply.ensures.reason in
    let both = subst (λ b. IfSome reply.reason (λ text. TellsOn cmd (files_on plan limits bytes b) (string_bytes text))) c.deref-2.ensures.value first in
    if_some_map reply.reason (λ text. TellsOn cmd (files_on plan limits bytes ranges) (string_bytes text))
    (λ text. IsReasonOn (TellsOn cmd) plan limits (g.F.Files.told c.args.files.now) (string_bytes text))
    (λ text t. reason_on (TellsOn cmd) plan limits (g.F.Files.told c.args.files.now) bytes ranges c.in_ok-plan_bytes.ensures.read (string_bytes text) t) both
