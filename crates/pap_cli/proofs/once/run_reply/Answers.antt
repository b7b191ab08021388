use Rattle.std.proofs.Common.{◌≡◌, ◌+◌, refl, sym, ap, ◌∙◌, subst, arith}
use Rattle.std.specs.Prelude.{IfSome, string_bytes}
use Rattle.carry_bindings.specs.declared.filling.Filled.TheVariants.{Inputs, State}
use Rattle.pap_plan.specs.Plans.{flowchart}
use Rattle.pay_run.specs.Accepted.{accepted}
use Rattle.pay_run.specs.RunClauses.{AdmitsFilled}
use Rattle.diagnostics.specs.FaultLines.{IsStateLine, TellsEach}
use Rattle.diagnostics.specs.RunReasons.{run_reasons}
use Rattle.plain_words.specs.Places.{files_of}
use Rattle.plan_answers.proofs.Laws.{if_ok_map, on_err_map}
use Rattle.pap_cli.specs.private.AnswerViews.{answer_of, IsRunWith}
use Rattle.pap_cli.specs.Reasons.{TellsReasons}
use Rattle.pap_cli.specs.RunAnswers.{IsRunOn}
use Rattle.pap_cli.specs.FileClauses.{IsCounted}
use Rattle.pap_cli.proofs.ReasonLemmas.{if_some_map, if_some_none, tells_reasons}
use Rattle.pap_cli.proofs.RunLemmas.{counted_map, filled_from, never_waits, state_steps}
use Rattle.pap_cli.proofs.once.run_reply.Goals as goal

pub finished-requires : goal.finished-requires
finished-requires g c = rw c.as_slice.ensures (subst (λ f. AdmitsFilled (accepted c.args.judged.now) f) c.in-Inputs.is c.in_ok-inputs.ensures.admitted)

pub state_reply-requires : goal.state_reply-requires
state_reply-requires g c = λ day e.
    let p = accepted c.args.judged.now in
    let from = filled_from c.args.values p c.record_of-record.result.values (State c.in-State.state) _ c.record_of-record.ensures c.in-State.is c.in_ok-inputs.ensures.are in
    never_waits p c.args.values day (from ∙ ap State e)

pub returns-in-Inputs-clause-answer : goal.returns-in-Inputs-clause-answer
returns-in-Inputs-clause-answer g c =
    let p = c.args.judged.now in
    let from = filled_from c.args.values (accepted p) c.record_of-record.result.values (Inputs c.in-Inputs.inputs) _ c.record_of-record.ensures c.in-Inputs.is c.in_ok-inputs.ensures.are in
    if_ok_map c.finished.result (λ reply. IsRunOn (flowchart p) (Inputs c.in-Inputs.inputs) (answer_of reply)) (λ reply. IsRunWith c.args.values p (answer_of reply))
    (λ reply h. subst (λ f. IsRunOn (flowchart p) f (answer_of reply)) (sym from) h)
    (rw (← c.as_slice.ensures) c.finished.ensures.answer)

pub returns-in-Inputs-clause-reason : goal.returns-in-Inputs-clause-reason
returns-in-Inputs-clause-reason g c =
    if_ok_map c.finished.result _ _ (λ reply silent. if_some_none reply.reason _ silent) c.finished.ensures.silent

pub returns-in-Inputs-clause-memory : goal.returns-in-Inputs-clause-memory
returns-in-Inputs-clause-memory g c =
    let p = c.args.judged.now in
    let from = filled_from c.args.values (accepted p) c.record_of-record.result.values (Inputs c.in-Inputs.inputs) _ c.record_of-record.ensures c.in-Inputs.is c.in_ok-inputs.ensures.are in
    let IsRun = IsRunOn (flowchart p) (Inputs c.in-Inputs.inputs) in
    let IsAnswer = IsRunWith c.args.values p in
    on_err_map c.finished.result (IsCounted IsRun c.args.steps.now c.finished.new.steps) (IsCounted IsAnswer c.args.steps.now c.finished.new.steps)
    (counted_map IsRun IsAnswer c.args.steps.now c.finished.new.steps (λ a h. subst (λ f. IsRunOn (flowchart p) f a) (sym from) h))
    (rw (← c.as_slice.ensures) c.finished.ensures.memory)

pub returns-clause-answer : goal.returns-clause-answer
returns-clause-answer g c =
    let p = c.args.judged.now in
    let from = filled_from c.args.values (accepted p) c.record_of-record.result.values (State c.in-State.state) _ c.record_of-record.ensures c.in-State.is c.in_ok-inputs.ensures.are in
    if_ok_map c.state_reply.result (λ reply. IsRunOn (flowchart p) (State c.in-State.state) (answer_of reply)) (λ reply. IsRunWith c.args.values p (answer_of reply))
    (λ reply h. subst (λ f. IsRunOn (flowchart p) f (answer_of reply)) (sym from) h)
    (c.state_reply.ensures.answer (flowchart p))

pub returns-clause-reason : goal.returns-clause-reason
returns-clause-reason g c =
    let p = c.args.judged.now in
    let files = files_of c.args.plan c.args.limits in
    let from = filled_from c.args.values (accepted p) c.record_of-record.result.values (State c.in-State.state) _ c.record_of-record.ensures c.in-State.is c.in_ok-inputs.ensures.are in
    let reasons = run_reasons (accepted p) c.record_of-record.result.values in
    if_ok_map c.state_reply.result (λ reply. IfSome reply.reason (λ text. TellsEach (IsStateLine files) reasons (string_bytes text)))
    (λ reply. IfSome reply.reason (λ text. TellsReasons c.args.values (accepted p) files (string_bytes text)))
    (λ reply h. if_some_map reply.reason (λ text. TellsEach (IsStateLine files) reasons (string_bytes text))
    (λ text. TellsReasons c.args.values (accepted p) files (string_bytes text))
    (λ text t. tells_reasons c.args.values c.record_of-record.result.values (accepted p) files c.in-State.state reasons from
    c.record_of-record.ensures refl (string_bytes text) t) h)
    c.state_reply.ensures.reason

pub returns-clause-counted : goal.returns-clause-counted
returns-clause-counted g c =
    if_ok_map c.state_reply.result (λ reply. IsRunOn (flowchart c.args.judged.now) (State c.in-State.state) (answer_of reply)) (λ reply. c.args.steps.now ≡ c.args.steps.now + reply.steps)
    (λ reply h. let none = state_steps (flowchart c.args.judged.now) c.in-State.state (answer_of reply) h in omega (arith, none))
    (c.state_reply.ensures.answer (flowchart c.args.judged.now))
