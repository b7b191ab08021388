use Rattle.std.proofs.Common.{subst}
use Rattle.std.specs.Prelude.{IfOk, string_bytes}
use Rattle.book_year.specs.Accepted.{accepted}
use Rattle.recalc_engine.specs.EditAnswers as edits
use Rattle.script_steps.specs.private.Replies.{reply_of}
use Rattle.script_steps.specs.LineSteps.{IsPut}
use Rattle.script_steps.specs.private.PlanViews.{IsJudged}
use Rattle.script_steps.specs.private.StepViews.{IsEditReply}
use Rattle.script_steps.proofs.EditLemmas.{standing, edit_left, edit_made, edit_lost}
use Rattle.script_steps.proofs.PlanLemmas.{refused, put_left, put_made, put_lost}
use Rattle.script_steps.proofs.plan.put.Goals as goal

pub returns-in-Accepted-clause-made : goal.returns-in-Accepted-clause-made
returns-in-Accepted-clause-made g c = λ plan limits j.
    let p = c.in-Accepted.plan in
    let judged = subst (IsJudged plan limits) c.in-Accepted.is j in
    let bound = string_bytes c.in-Accepted.line in
    let e = edits.put (c.args.day, accepted p) in
    let filings = c.script.inside.ledger in
    let total = c.edit_reply.new.total in
    put_made c.args.script.now c.args.day plan limits p bound judged.0 judged.1 c.args.steps.now c.put_plan-made.new.steps
    (standing filings total c.put_plan-made.new.self) c.edit_reply.result
    (edit_made bound c.args.script.now e filings c.script.inside.made c.script.inside.book c.script.view_is
    c.put_plan-made.new.self c.args.steps.now c.put_plan-made.new.steps c.put_plan-made.result c.edit_reply.result
    c.put_plan-made.ensures.answers c.put_plan-made.ensures.counted total c.edit_reply.ensures.total
    (subst (λ t. IfOk c.edit_reply.result (λ r. IsEditReply t c.put_plan-made.result (reply_of r)))
    c.as_bytes.ensures.value c.edit_reply.ensures.reply))

pub returns-in-Accepted-clause-lost : goal.returns-in-Accepted-clause-lost
returns-in-Accepted-clause-lost g c = λ plan limits j.
    let p = c.in-Accepted.plan in
    let judged = subst (IsJudged plan limits) c.in-Accepted.is j in
    let bound = string_bytes c.in-Accepted.line in
    let e = edits.put (c.args.day, accepted p) in
    put_lost c.args.script.now c.args.day plan limits p bound judged.0 judged.1 c.args.steps.now c.put_plan-made.new.steps
    c.edit_reply.result
    (edit_lost bound c.args.script.now e c.script.inside.ledger c.script.inside.made c.script.inside.book
    c.script.view_is c.put_plan-made.new.self c.args.steps.now c.put_plan-made.new.steps c.put_plan-made.result
    c.edit_reply.result c.put_plan-made.ensures.answers c.put_plan-made.ensures.counted)

pub returns-in-Accepted-clause-left : goal.returns-in-Accepted-clause-left
returns-in-Accepted-clause-left g c = λ plan limits j.
    let p = c.in-Accepted.plan in
    let judged = subst (IsJudged plan limits) c.in-Accepted.is j in
    let bound = string_bytes c.in-Accepted.line in
    let e = edits.put (c.args.day, accepted p) in
    let filings = c.script.inside.ledger in
    let total = c.edit_reply.new.total in
    put_left c.args.script.now c.args.day plan limits p bound judged.0 judged.1 c.args.steps.now c.put_plan-made.new.steps
    (standing filings total c.put_plan-made.new.self) c.edit_reply.result
    (edit_left bound c.args.script.now e filings c.script.inside.made c.script.inside.book c.script.view_is
    c.put_plan-made.new.self c.put_plan-made.result c.edit_reply.result c.put_plan-made.ensures.answers
    c.put_plan-made.ensures.err total c.edit_reply.ensures.total)

pub returns-in-Refused-clause-made : goal.returns-in-Refused-clause-made
returns-in-Refused-clause-made g c = λ plan limits j.
    refused c.args.script.now c.args.day plan limits IsPut c.args.steps.now c.in-Refused.reply
    (subst (IsJudged plan limits) c.in-Refused.is j)
