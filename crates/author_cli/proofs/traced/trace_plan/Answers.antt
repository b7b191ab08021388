use Rattle.std.proofs.Common.{inr}
use Rattle.plain_words.specs.Places.{named_text}
use Rattle.plan_answers.proofs.Laws.{if_ok_map}
use Rattle.author_cli.specs.Ends.{words_of}
use Rattle.author_cli.specs.Traced.{IsRefusedAs, IsTraced}
use Rattle.author_cli.proofs.traced.trace_plan.Goals as goal

pub returns : goal.returns
returns c =
    let plan = named_text c.args.plan in
    let limits = named_text c.args.limits in
    if_ok_map c.answer_refused.result (λ answer. IsRefusedAs c.in-Err.fault plan limits answer.text.items (words_of answer.reason))
    (λ answer. IsTraced c.args.values plan limits answer.text.items (words_of answer.reason))
    (λ answer h. inr (inr (c.in-Err.fault, h))) c.answer_refused.ensures
