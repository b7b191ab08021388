use Rattle.std.proofs.Common.{subst, sym, ◌∙◌}
use Rattle.pap_plan.specs.Plans.{flowchart}
use Rattle.pay_run.specs.Accepted.{accepted}
use Rattle.pay_run.specs.RunClauses.{AdmitsFilled}
use Rattle.plain_words.specs.Places.{named_text}
use Rattle.plan_answers.proofs.Laws.{if_ok_map}
use Rattle.author_cli.specs.Drawn.{IsDrawn}
use Rattle.author_cli.specs.Ends.{words_of}
use Rattle.author_cli.specs.private.DrawnViews.{DrawsRun, DrawsBlocked}
use Rattle.author_cli.proofs.DrawnLemmas.{drawn_run, drawn_blocked}
use Rattle.author_cli.proofs.TracedLemmas.{waits_for_none}
use Rattle.author_cli.proofs.drawn.draw_accepted.Goals as goal

pub draw_run-requires-clause-admitted : goal.draw_run-requires-clause-admitted
draw_run-requires-clause-admitted c =
    rw c.as_slice.ensures
    (subst (λ f. AdmitsFilled (accepted c.args.judged.accepted.now) f) c.in-Inputs.is c.in_ok-inputs.ensures.admitted)

pub draw_blocked-requires-clause-alone : goal.draw_blocked-requires-clause-alone
draw_blocked-requires-clause-alone c = λ day.
    waits_for_none (accepted c.args.judged.accepted.now) c.record_of-record.result.values c.in-State.state _ day c.in-State.is
    c.in_ok-inputs.ensures.are

pub returns-in-Inputs : goal.returns-in-Inputs
returns-in-Inputs c =
    let j = c.args.judged in
    let given = c.record_of-record.result.values in
    if_ok_map c.draw_run.result
    (λ answer. DrawsRun j (flowchart j.accepted.now) given c.in-Inputs.inputs answer.text.items (words_of answer.reason))
    (λ answer. IsDrawn c.args.values (named_text j.plan) (named_text j.limits) answer.text.items (words_of answer.reason))
    (λ answer h. drawn_run c.args.values given j c.in-Inputs.inputs _ answer.text.items (words_of answer.reason) c.requires
    c.record_of-record.ensures c.in-Inputs.is c.in_ok-inputs.ensures.are h)
    (rw (← c.as_slice.ensures) c.draw_run.ensures)

pub returns : goal.returns
returns c =
    let j = c.args.judged in
    if_ok_map c.draw_blocked.result
    (λ answer. DrawsBlocked j c.record_of-record.result.values c.in-State.state answer.text.items (words_of answer.reason))
    (λ answer. IsDrawn c.args.values (named_text j.plan) (named_text j.limits) answer.text.items (words_of answer.reason))
    (λ answer h. drawn_blocked c.args.values c.record_of-record.result.values j c.in-State.state _ answer.text.items
    (words_of answer.reason) c.requires c.record_of-record.ensures c.in-State.is c.in_ok-inputs.ensures.are h)
    c.draw_blocked.ensures

pub draw_blocked-requires-clause-blocked : goal.draw_blocked-requires-clause-blocked
draw_blocked-requires-clause-blocked c = sym c.in_ok-inputs.ensures.are ∙ c.in-State.is
