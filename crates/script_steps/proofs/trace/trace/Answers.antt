use Rattle.std.proofs.Common.{◌∙◌, ap}
use Rattle.script_steps.specs.private.Replies.{reply_of}
use Rattle.plan_answers.proofs.Laws.{if_ok_map}
use Rattle.script_steps.specs.LineTexts.{trace_text}
use Rattle.script_steps.specs.Standings.{answered}
use Rattle.script_steps.proofs.TraceLemmas.{refused, told}
use Rattle.script_steps.proofs.trace.trace.Goals as goal

pub returns-in_ok-trace_text-in-Ok : goal.returns-in_ok-trace_text-in-Ok
returns-in_ok-trace_text-in-Ok c =
    told c.args.book.now c.args.employee c.args.when c.in-Ok.steps.items (reply_of c.answered.result) c.in-Ok.ensures.ok
    (c.answered.ensures
    ∙ ap (λ t. answered t 0) (c.in_ok-trace_text-in-Ok.ensures ∙ ap trace_text c.as_slice.ensures.value))

pub returns-in-Err : goal.returns-in-Err
returns-in-Err c =
    if_ok_map c.trace_refusal.result _ _
    (λ reply. refused c.args.book.now c.args.employee c.args.when c.in-Err.why (reply_of reply) c.in-Err.ensures.refused)
    c.trace_refusal.ensures
