use Rattle.pap_tree.specs.Flowchart.{flowchart_of}
use Rattle.plain_words.specs.Places.{named_text}
use Rattle.plan_answers.proofs.Laws.{if_ok_map}
use Rattle.author_cli.specs.Ends.{words_of}
use Rattle.author_cli.specs.Examples.{IsFoundText, IsExample}
use Rattle.author_cli.specs.Traced.{IsRefusedAs}
use Rattle.author_cli.proofs.ExampleLemmas.{searched, unsearched}
use Rattle.author_cli.proofs.example.seek_example.Goals as goal

pub returns-in-Ok : goal.returns-in-Ok
returns-in-Ok c =
    let plan = named_text c.args.plan in
    let limits = named_text c.args.limits in
    let b = c.in-Ok.bound in
    if_ok_map c.tell_search.result
    (λ answer. IsFoundText (flowchart_of b.typed) b.limits answer.text.items (words_of answer.reason))
    (λ answer. IsExample plan limits answer.text.items (words_of answer.reason))
    (λ answer h. searched plan limits b answer.text.items (words_of answer.reason) c.in-Ok.ensures.bound h)
    c.tell_search.ensures

pub returns-in-Err : goal.returns-in-Err
returns-in-Err c =
    let plan = named_text c.args.plan in
    let limits = named_text c.args.limits in
    let r = c.in-Err.fault in
    if_ok_map c.answer_refused.result
    (λ answer. IsRefusedAs r plan limits answer.text.items (words_of answer.reason))
    (λ answer. IsExample plan limits answer.text.items (words_of answer.reason))
    (λ answer h. unsearched plan limits r answer.text.items (words_of answer.reason) c.in-Err.ensures.refused.early h)
    c.answer_refused.ensures
