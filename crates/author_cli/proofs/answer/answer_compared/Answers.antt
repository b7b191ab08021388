use Rattle.std.proofs.Common.{subst}
use Rattle.author_cli.specs.Answers.{file_of}
use Rattle.author_cli.specs.Compared.{IsCompared}
use Rattle.author_cli.specs.private.AnswerViews.{answer_of}
use Rattle.author_cli.specs.private.WordViews.{medium_of}
use Rattle.author_cli.proofs.FrontLemmas.{compared_of}
use Rattle.author_cli.proofs.answer.answer_compared.Goals as goal

pub returns-clause-made : goal.returns-clause-made
returns-clause-made g c =
    let m = medium_of c.args.medium in
    let old = c.args.old.now in
    let new = c.args.new.now in
    let bytes = c.in_ok-old_bytes.old_bytes.items in
    let bytes' = c.in_ok-old_bytes.new_bytes.items in
    let made = answer_of c.in_ok-compare_plans.field-0 in
    let second = c.deref-2.result.now in
    let of_old = subst (λ b. IsCompared m (file_of old b) (file_of new second) made.text made.reason)
    c.deref.ensures.value c.in_ok-compare_plans.ensures in
    let of_both = subst (λ b. IsCompared m (file_of old bytes) (file_of new b) made.text made.reason)
    c.deref-2.ensures.value of_old in
    let read = c.in_ok-old_bytes.ensures.read in (
      λ files told. compared_of files m old new bytes bytes' made (read files told) of_both,
      c.in_ok-old_bytes.ensures.kept,
    )
