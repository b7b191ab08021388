use Rattle.std.proofs.Common.{inr}
use Rattle.plain_words.specs.Places.{named_text}
use Rattle.plan_answers.proofs.Laws.{if_ok_map}
use Rattle.author_cli.specs.Covered.{IsUncovered, IsCoverAnswer}
use Rattle.author_cli.specs.Ends.{words_of}
use Rattle.author_cli.specs.private.WordViews.{medium_of}
use Rattle.author_cli.proofs.CoveredLemmas.{told}
use Rattle.author_cli.proofs.covered.cover_plan.Goals as goal

pub returns-in_ok-reason-in-Ok : goal.returns-in_ok-reason-in-Ok
returns-in_ok-reason-in-Ok c =
    told (named_text c.args.plan) (named_text c.args.limits) c.args.table.bytes.now c.in_ok-text-in-Ok.text.items
    (words_of c.in_ok-reason-in-Ok.reason) (medium_of c.args.medium) c.args.least c.in-Ok.found c.in_ok-share-in-Ok.share
    c.in-Ok.ensures.covered c.in_ok-text-in-Ok.ensures c.in_ok-share-in-Ok.ensures c.in_ok-reason-in-Ok.ensures

pub write_found-requires : goal.write_found-requires
write_found-requires c = (c.in-Ok.ensures.covered.meaning, c.in-Ok.ensures.covered.has.accepted)

pub returns-in-Err : goal.returns-in-Err
returns-in-Err c =
    let plan = named_text c.args.plan in
    let limits = named_text c.args.limits in
    let table = c.args.table.bytes.now in
    if_ok_map c.answer_uncovered.result (λ answer. IsUncovered plan limits table answer.text.items (words_of answer.reason))
    (λ answer. IsCoverAnswer (medium_of c.args.medium) c.args.least plan limits table answer.text.items (words_of answer.reason)) (λ answer h. inr h)
    c.answer_uncovered.ensures
