use Rattle.std.proofs.Common.{◌∙◌, ap}
use Rattle.std.specs.Prelude.{Ok}
use Rattle.script_steps.specs.private.Replies.{reply_of}
use Rattle.plan_answers.proofs.Laws.{if_ok_map}
use Rattle.script_steps.specs.LineTexts.{owed_text}
use Rattle.script_steps.specs.Standings.{answered}
use Rattle.script_steps.proofs.DoneLemmas.{owed_told, owed_refused}
use Rattle.script_steps.proofs.filings.owed.Goals as goal

pub returns-in_ok-owed_text-in-Ok : goal.returns-in_ok-owed_text-in-Ok
returns-in_ok-owed_text-in-Ok c =
    owed_told c.args.script.now c.script.inside.book c.script.inside.ledger c.script.inside.made c.script.view_is (Ok
    c.in-Ok.dues.items)
    (reply_of c.answered.result) c.in-Ok.ensures.ok
    (c.answered.ensures ∙ ap (λ t. answered t 0) (c.in_ok-owed_text-in-Ok.ensures
    ∙ ap owed_text c.as_slice.ensures.value))

pub returns-in-Err : goal.returns-in-Err
returns-in-Err c =
    if_ok_map c.owed_refusal.result _ _
    (λ r is. owed_refused c.args.script.now c.script.inside.book c.script.inside.ledger c.script.inside.made
    c.script.view_is c.in-Err.why
    (reply_of r) c.in-Err.ensures.refused is)
    c.owed_refusal.ensures
