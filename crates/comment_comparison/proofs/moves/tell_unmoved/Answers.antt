use Rattle.comment_comparison.specs.Comments.{comment_texts}
use Rattle.comment_comparison.proofs.MoveLemmas.{is_moved, is_told_as}
use Rattle.comment_comparison.proofs.moves.tell_unmoved.Goals as goal

pub returns-then-branch : goal.returns-then-branch
returns-then-branch c =
    let taken = c.in_ok-take_moved.ensures in
    is_moved (comment_texts c.args.old.now) (comment_texts c.args.new.now) c.args.tally.now c.take_moved.new.tally
    c.args.told.now.items c.args.change (taken.stood c.if-branch.true) taken.gone_left taken.new_left

pub returns : goal.returns
returns c =
    let taken = c.in_ok-take_moved.ensures in
    is_told_as (comment_texts c.args.old.now) (comment_texts c.args.new.now) c.args.tally.now c.take_moved.new.tally
    c.args.told.now.items c.args.change c.push.new.self.items c.in_ok-push.ensures.items (taken.absent c.if-branch.false)
    taken.gone_left taken.new_left
