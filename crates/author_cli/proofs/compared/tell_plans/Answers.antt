use Rattle.std.specs.Prelude.{None}
use Rattle.pap_tree.specs.Flowchart.{flowchart_of}
use Rattle.plain_words.specs.Places.{named_text}
use Rattle.plan_answers.proofs.Laws.{if_ok_map}
use Rattle.author_cli.specs.Compared.{TellsComparison, IsComparedText}
use Rattle.author_cli.specs.Ends.{words_of}
use Rattle.author_cli.specs.private.WordViews.{medium_of}
use Rattle.author_cli.proofs.ComparedLemmas.{compared_text}
use Rattle.author_cli.proofs.compared.tell_plans.Goals as goal

pub returns : goal.returns
returns c =
    let m = medium_of c.args.medium in
    let old = named_text c.args.old in
    let new = named_text c.args.new in
    let p = flowchart_of c.args.old_plan.now in
    let q = flowchart_of c.args.new_plan.now in
    if_ok_map c.tell_comparison.result
    (λ answer. TellsComparison m old new p q None answer.text.items (words_of answer.reason))
    (λ answer. IsComparedText m old new answer.text.items (words_of answer.reason))
    (λ answer h. compared_text m old new answer.text.items (words_of answer.reason) p q c.requires.old_read c.requires.new_read h)
    c.tell_comparison.ensures
