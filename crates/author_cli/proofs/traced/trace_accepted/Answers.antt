use Rattle.std.proofs.Common.{subst, sym, ◌∙◌}
use Rattle.pap_plan.specs.Plans.{flowchart}
use Rattle.pay_run.specs.Accepted.{accepted}
use Rattle.pay_run.specs.RunClauses.{AdmitsFilled}
use Rattle.plain_words.specs.Places.{files_of, named_text}
use Rattle.plan_answers.proofs.Laws.{if_ok_map}
use Rattle.author_cli.specs.Ends.{words_of}
use Rattle.author_cli.specs.Traced.{IsTraced}
use Rattle.author_cli.specs.private.TracedViews.{IsRunOf, SaysBlocked}
use Rattle.author_cli.proofs.TracedLemmas.{told_run, blocked_run, waits_for_none}
use Rattle.author_cli.proofs.traced.trace_accepted.Goals as goal

pub tell_run-requires : goal.tell_run-requires
tell_run-requires c =
    rw c.as_slice.ensures (subst (λ f. AdmitsFilled (accepted c.args.judged.now) f) c.in-Inputs.is c.in_ok-inputs.ensures.admitted)

pub answer_blocked-requires-clause-alone : goal.answer_blocked-requires-clause-alone
answer_blocked-requires-clause-alone c = λ day.
    waits_for_none (accepted c.args.judged.now) c.record_of-record.result.values c.in-State.state _ day c.in-State.is
    c.in_ok-inputs.ensures.are

pub returns-in-Inputs : goal.returns-in-Inputs
returns-in-Inputs c =
    let plan = named_text c.args.plan in
    let limits = named_text c.args.limits in
    let given = c.record_of-record.result.values in
    if_ok_map c.tell_run.result
    (λ answer. IsRunOf plan.bytes (flowchart c.args.judged.now) given c.in-Inputs.inputs answer.text.items (words_of answer.reason))
    (λ answer. IsTraced c.args.values plan limits answer.text.items (words_of answer.reason))
    (λ answer h. told_run c.args.values given plan limits c.args.judged.now c.in-Inputs.inputs _ answer.text.items
    (words_of answer.reason) c.requires c.record_of-record.ensures c.in-Inputs.is c.in_ok-inputs.ensures.are h)
    (rw (← c.as_slice.ensures) c.tell_run.ensures)

pub returns : goal.returns
returns c =
    let plan = named_text c.args.plan in
    let limits = named_text c.args.limits in
    if_ok_map c.answer_blocked.result
    (λ answer. SaysBlocked (accepted c.args.judged.now) c.record_of-record.result.values (files_of c.args.plan c.args.limits) c.in-State.state answer.text.items (words_of answer.reason))
    (λ answer. IsTraced c.args.values plan limits answer.text.items (words_of answer.reason))
    (λ answer h. blocked_run c.args.values c.record_of-record.result.values plan limits c.args.judged.now c.in-State.state _
    answer.text.items (words_of answer.reason) c.requires c.record_of-record.ensures c.in-State.is c.in_ok-inputs.ensures.are h)
    c.answer_blocked.ensures

pub answer_blocked-requires-clause-blocked : goal.answer_blocked-requires-clause-blocked
answer_blocked-requires-clause-blocked c = sym c.in_ok-inputs.ensures.are ∙ c.in-State.is
