use Rattle.std.proofs.Common.{subst}
use Rattle.author_cli.specs.Compared.{IsComparedPairs}
use Rattle.author_cli.specs.private.AnswerViews.{answer_of}
use Rattle.author_cli.specs.private.WordViews.{medium_of}
use Rattle.author_cli.proofs.CompareFrontLemmas.{pairs_of, pair_of}
use Rattle.author_cli.proofs.answer.answer_pairs.Goals as goal

pub returns-clause-made : goal.returns-clause-made
returns-clause-made g c =
    let m = medium_of c.args.medium in
    let old = c.args.old.now in
    let old_limits = c.args.old_limits.now in
    let new = c.args.new.now in
    let new_limits = c.args.new_limits.now in
    let read = c.in_ok-read.read in
    let made = answer_of c.in_ok-compare_pairs.field-0 in
    let second = c.deref-2.result.now in
    let third = c.deref-3.result.now in
    let fourth = c.deref-4.result.now in
    let new_as = pair_of new third new_limits fourth in
    let of_old = subst (λ b. IsComparedPairs m (pair_of old b old_limits second) new_as made.text made.reason)
    c.deref.ensures.value c.in_ok-compare_pairs.ensures in
    let of_limits = subst (λ b. IsComparedPairs m (pair_of old read.old.items old_limits b) new_as made.text made.reason)
    c.deref-2.ensures.value of_old in
    let first = pair_of old read.old.items old_limits read.old_limits.items in
    let of_new = subst (λ b. IsComparedPairs m first (pair_of new b new_limits fourth) made.text made.reason)
    c.deref-3.ensures.value of_limits in
    let of_all = subst (λ b. IsComparedPairs m first (pair_of new read.new.items new_limits b) made.text made.reason)
    c.deref-4.ensures.value of_new in (
      λ files told. pairs_of files m old old_limits new new_limits read made (c.in_ok-read.ensures.read files told) of_all,
      c.in_ok-read.ensures.kept,
    )
