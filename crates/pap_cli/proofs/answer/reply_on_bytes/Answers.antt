use Rattle.std.proofs.Common.{refl, ◌≡◌, ℕ, ◌+◌, List, inl, subst, arith}
use Rattle.std.specs.Prelude.{IfSome, string_bytes}
use Rattle.pap_plan.specs.AcceptanceClauses.{IsAcceptedAs}
use Rattle.pap_plan.specs.Judgements.{IsJudgementOf, IsRefusedPlan}
use Rattle.pap_plan.specs.Plans.{Seen, meaning}
use Rattle.pap_plan.specs.declared.judgement.Judgement.{Judgement}
use Rattle.pap_plan.specs.declared.judgement.Judgement.TheVariants.{Accepted, Refused}
use Rattle.pap_plan.specs.declared.judgement.RefusedPlan.{RefusedPlan}
use Rattle.pap_plan.proofs.Laws.{refused_or}
use Rattle.pay_run.specs.Accepted.{accepted}
use Rattle.diagnostics.specs.FurtherFaults.{TellsFaults}
use Rattle.plain_words.specs.Places.{files_of}
use Rattle.plan_answers.specs.Answers.{acceptance, CheckAnswers, IsRefusal}
use Rattle.plan_answers.proofs.Laws.{if_ok_map, on_err_any, on_err_map, refusal_steps}
use Rattle.pap_cli.specs.FileClauses.{IsCounted}
use Rattle.pap_cli.specs.RunAnswers.{OnceAnswers}
use Rattle.pap_cli.specs.declared.words.Command.TheVariants as commands
use Rattle.pap_cli.specs.private.AnswerViews.{answer_of, answers_of, IsRunWith}
use Rattle.pap_cli.specs.Reasons.{TellsReasons}
use Rattle.pap_cli.specs.private.ReasonViews.{TellsOn}
use Rattle.pap_cli.proofs.ReasonLemmas.{if_some_map, if_some_none, tells_plan, tells_state}
use Rattle.pap_cli.proofs.RunLemmas.{answer_refused, counted_map, check_accepted, no_steps, once_accepted}
use Rattle.pap_cli.proofs.answer.reply_on_bytes.Goals as goal

-- ---- what is judged

accepted_is : (plan limits : List ℕ) (j : Judgement) (p : Seen) → j ≡ Accepted p → IsJudgementOf plan limits j → IsAcceptedAs plan limits p
accepted_is plan limits j p is h = subst (IsJudgementOf plan limits) is h

refused_is : (plan limits : List ℕ) (j : Judgement) (r : RefusedPlan) → j ≡ Refused r → IsJudgementOf plan limits j → IsRefusedPlan plan limits r
refused_is plan limits j r is h = subst (IsJudgementOf plan limits) is h

pub refused_reply-requires : goal.refused_reply-requires
refused_reply-requires g c =
    refused_is c.args.plan.bytes.now c.args.limits.bytes.now c.in_ok-accepted.field-0 c.in-Refused.refused c.in-Refused.is c.in_ok-accepted.ensures

-- ---- `check` on an accepted plan

pub returns-in-Check-clause-answer : goal.returns-in-Check-clause-answer
returns-in-Check-clause-answer g c =
    let plan = c.args.plan.bytes.now in
    let limits = c.args.limits.bytes.now in
    let judged = c.in-Accepted.accepted in
    rw c.in-Check.is
    (if_ok_map c.check_reply.result (λ reply. answer_of reply ≡ acceptance (meaning judged)) (λ reply. CheckAnswers plan limits (answer_of reply))
    (λ reply h. check_accepted plan limits judged (answer_of reply) (accepted_is plan limits c.in_ok-accepted.field-0 judged c.in-Accepted.is c.in_ok-accepted.ensures) h) c.check_reply.ensures.answer)

pub returns-in-Check-clause-reason : goal.returns-in-Check-clause-reason
returns-in-Check-clause-reason g c =
    if_ok_map c.check_reply.result _ _ (λ reply silent. if_some_none reply.reason _ silent) c.check_reply.ensures.silent

pub returns-in-Check-clause-counted : goal.returns-in-Check-clause-counted
returns-in-Check-clause-counted g c =
    if_ok_map c.check_reply.result (λ reply. answer_of reply ≡ acceptance (meaning c.in-Accepted.accepted)) (λ reply. c.args.steps.now ≡ c.args.steps.now + reply.steps)
    (λ reply h. let none = no_steps (meaning c.in-Accepted.accepted) (answer_of reply) h in omega (arith, none)) c.check_reply.ensures.answer

-- ---- `once` on an accepted plan

pub returns-in-Accepted-clause-answer : goal.returns-in-Accepted-clause-answer
returns-in-Accepted-clause-answer g c =
    let plan = c.args.plan.bytes.now in
    let limits = c.args.limits.bytes.now in
    let values = c.in-Once.values in
    let judged = c.in-Accepted.accepted in
    rw c.in-Once.is
    (if_ok_map c.run_reply.result (λ reply. IsRunWith values judged (answer_of reply)) (λ reply. OnceAnswers values plan limits (answer_of reply))
    (λ reply h. once_accepted values plan limits judged (answer_of reply) (accepted_is plan limits c.in_ok-accepted.field-0 judged c.in-Accepted.is c.in_ok-accepted.ensures) h) c.run_reply.ensures.answer)

pub returns-in-Accepted-clause-reason : goal.returns-in-Accepted-clause-reason
returns-in-Accepted-clause-reason g c =
    let values = c.in-Once.values in
    let judged = c.in-Accepted.accepted in
    let files = files_of c.args.plan c.args.limits in
    let Tells = TellsReasons values (accepted judged) files in
    let Says = TellsOn (commands.Once values) files in
    rw c.in-Once.is
    (if_ok_map c.run_reply.result (λ reply. IfSome reply.reason (λ text. Tells (string_bytes text)))
    (λ reply. IfSome reply.reason (λ text. Says (string_bytes text)))
    (λ reply h. if_some_map reply.reason (λ text. Tells (string_bytes text)) (λ text. Says (string_bytes text))
    (λ text t. tells_state values files judged (accepted_is c.args.plan.bytes.now c.args.limits.bytes.now c.in_ok-accepted.field-0 judged c.in-Accepted.is c.in_ok-accepted.ensures) (string_bytes text) t) h)
    c.run_reply.ensures.reason)

pub returns-in-Accepted-clause-memory : goal.returns-in-Accepted-clause-memory
returns-in-Accepted-clause-memory g c =
    let plan = c.args.plan.bytes.now in
    let limits = c.args.limits.bytes.now in
    let values = c.in-Once.values in
    let judged = c.in-Accepted.accepted in
    let IsRun = IsRunWith values judged in
    let IsAnswer = OnceAnswers values plan limits in
    rw c.in-Once.is
    (on_err_map c.run_reply.result (IsCounted IsRun c.args.steps.now c.run_reply.new.steps) (IsCounted IsAnswer c.args.steps.now c.run_reply.new.steps)
    (counted_map IsRun IsAnswer c.args.steps.now c.run_reply.new.steps (λ a h. once_accepted values plan limits judged a (accepted_is plan limits c.in_ok-accepted.field-0 judged c.in-Accepted.is c.in_ok-accepted.ensures) h)) c.run_reply.ensures.memory)

-- ---- a refused plan

pub returns-clause-answer : goal.returns-clause-answer
returns-clause-answer g c =
    let plan = c.args.plan.bytes.now in
    let limits = c.args.limits.bytes.now in
    let fault = c.in-Refused.refused.refusal in
    if_ok_map c.refused_reply.result (λ reply. IsRefusal plan fault (answer_of reply)) (λ reply. answers_of c.args.command plan limits (answer_of reply))
    (λ reply h. answer_refused c.args.command plan limits fault (answer_of reply) (refused_or plan limits fault (refused_is plan limits c.in_ok-accepted.field-0 c.in-Refused.refused c.in-Refused.is c.in_ok-accepted.ensures).refused) h) c.refused_reply.ensures.answer

pub returns-clause-reason : goal.returns-clause-reason
returns-clause-reason g c =
    let fault = c.in-Refused.refused.refusal in
    let files = files_of c.args.plan c.args.limits in
    let Tells = TellsFaults files fault in
    let Says = TellsOn c.args.command files in
    if_ok_map c.refused_reply.result (λ reply. IfSome reply.reason (λ text. Tells (string_bytes text)))
    (λ reply. IfSome reply.reason (λ text. Says (string_bytes text)))
    (λ reply h. if_some_map reply.reason (λ text. Tells (string_bytes text)) (λ text. Says (string_bytes text))
    (λ text t. tells_plan c.args.command files fault (refused_is c.args.plan.bytes.now c.args.limits.bytes.now c.in_ok-accepted.field-0 c.in-Refused.refused c.in-Refused.is c.in_ok-accepted.ensures).refused (string_bytes text) t) h)
    c.refused_reply.ensures.reason

pub returns-clause-counted : goal.returns-clause-counted
returns-clause-counted g c =
    let plan = c.args.plan.bytes.now in
    if_ok_map c.refused_reply.result (λ reply. IsRefusal plan c.in-Refused.refused.refusal (answer_of reply)) (λ reply. c.args.steps.now ≡ c.args.steps.now + reply.steps)
    (λ reply h. let none = refusal_steps plan c.in-Refused.refused.refusal (answer_of reply) h in omega (arith, none)) c.refused_reply.ensures.answer

pub returns-clause-memory : goal.returns-clause-memory
returns-clause-memory g c = on_err_any c.refused_reply.result _ (inl refl)

-- ---- memory runs out before a run

pub returns-in_err-accepted-clause-memory : goal.returns-in_err-accepted-clause-memory
returns-in_err-accepted-clause-memory g c = on_err_any c.from_residual.result _ (inl refl)
