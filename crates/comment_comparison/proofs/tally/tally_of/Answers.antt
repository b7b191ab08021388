use Rattle.std.proofs.Common.{arith, take}
use Rattle.comment_comparison.specs.Comments.{comment_texts}
use Rattle.comment_comparison.proofs.TallyLemmas.{gone_few, new_few, few_taken}
use Rattle.comment_comparison.proofs.tally.tally_of.Goals as goal

pub count_change-requires-clause-gone_few : goal.count_change-requires-clause-gone_few
count_change-requires-clause-gone_few c = λ text.
    let i = c.loop-change.change-index in
    let few = gone_few (comment_texts c.args.old.now) (comment_texts c.args.new.now) (take i c.args.changes.now) c.loop-change.tally
    c.loop-change.invariant text in
    let short = few_taken i c.args.changes.now in
    omega (arith, few, short)

pub count_change-requires-clause-new_few : goal.count_change-requires-clause-new_few
count_change-requires-clause-new_few c = λ text.
    let i = c.loop-change.change-index in
    let few = new_few (comment_texts c.args.old.now) (comment_texts c.args.new.now) (take i c.args.changes.now) c.loop-change.tally
    c.loop-change.invariant text in
    let short = few_taken i c.args.changes.now in
    omega (arith, few, short)
