use Rattle.std.proofs.Common.{inr}
use Rattle.plain_words.specs.Places.{named_text}
use Rattle.plan_answers.proofs.Laws.{if_ok_map}
use Rattle.author_cli.specs.Drawn.{IsDrawnRefused, IsDrawn}
use Rattle.author_cli.specs.Ends.{words_of}
use Rattle.author_cli.proofs.drawn.draw_trace.Goals as goal

pub returns-in-Refused : goal.returns-in-Refused
returns-in-Refused c =
    let plan = named_text c.args.plan in
    let limits = named_text c.args.limits in
    if_ok_map c.draw_refused.result (λ answer. IsDrawnRefused plan limits answer.text.items (words_of answer.reason))
    (λ answer. IsDrawn c.args.values plan limits answer.text.items (words_of answer.reason))
    (λ answer h. inr (inr h)) c.draw_refused.ensures
