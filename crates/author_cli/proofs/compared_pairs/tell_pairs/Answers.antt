use Rattle.std.proofs.Common.{◌∙◌, subst, sym}
use Rattle.std.specs.Prelude.{Some}
use Rattle.pap_tree.specs.Flowchart.{flowchart_of}
use Rattle.pap_plan.specs.Acceptance.{HasBindings}
use Rattle.plan_answers.proofs.Laws.{if_ok_map}
use Rattle.author_cli.specs.Compared.{TellsComparison, IsComparedWithin}
use Rattle.author_cli.specs.Ends.{words_of}
use Rattle.author_cli.specs.private.PairViews.{files_of_pair}
use Rattle.author_cli.specs.private.WordViews.{medium_of}
use Rattle.author_cli.proofs.ComparedLemmas.{compared_within}
use Rattle.author_cli.proofs.compared_pairs.tell_pairs.Goals as goal

pub returns : goal.returns
returns c =
    let m = medium_of c.args.medium in
    let old = files_of_pair c.args.old in
    let new = files_of_pair c.args.new in
    let p = flowchart_of c.plan.result.now in
    let q = flowchart_of c.plan-2.result.now in
    let l = c.args.bound.now.limits in
    let k = c.args.other.now.limits in
    let changes = c.deref.result.now in
    let old_bound = subst (λ t. HasBindings old.plan.bytes old.ranges.bytes (flowchart_of t) l) (sym c.plan.ensures.text)
    c.requires.old_bound.passed in
    let new_bound = subst (λ t. HasBindings new.plan.bytes new.ranges.bytes (flowchart_of t) k) (sym c.plan-2.ensures.text)
    c.requires.new_bound.passed in
    if_ok_map c.tell_comparison.result
    (λ answer. TellsComparison m old.plan new.plan p q (Some changes) answer.text.items (words_of answer.reason))
    (λ answer. IsComparedWithin m old new answer.text.items (words_of answer.reason))
    (λ answer h. compared_within m old new answer.text.items (words_of answer.reason) p q l k changes old_bound new_bound
    (c.deref.ensures.value ∙ c.in_ok-changes.ensures) h) c.tell_comparison.ensures
