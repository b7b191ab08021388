use Rattle.std.proofs.Common.{◌≡◌, ◌-◌, arith, subst, sym, take}
use Rattle.std.proofs.lemmas.List.{take_all, take_more}
use Rattle.comment_comparison.specs.Comments.{comment_texts}
use Rattle.comment_comparison.specs.CommentChanges.{times, gone_texts, new_texts, AreSome}
use Rattle.comment_comparison.specs.private.Tallies.{AreUnmoved}
use Rattle.comment_comparison.proofs.MoveLemmas.{unmoved_start}
use Rattle.comment_comparison.proofs.moves.unmoved.Goals as goal

pub loop-change-init : goal.loop-change-init
loop-change-init c =
    unmoved_start (comment_texts c.args.old.now) (comment_texts c.args.new.now) c.args.changes.now c.new-told.result.items
    c.in_ok-tally.tally c.in_ok-tally.ensures c.new-told.ensures.items

pub loop-change-preserved : goal.loop-change-preserved
loop-change-preserved c =
    let i = c.loop-change.change-index in
    let all = c.args.changes.now in
    subst (λ l. AreUnmoved (comment_texts c.args.old.now) (comment_texts c.args.new.now) all l c.tell_unmoved.new.told.items
    c.tell_unmoved.new.tally) (sym (take_more all i _ c.loop-change-test.true))
    (c.in_ok-tell_unmoved.ensures all (take i all) c.loop-change.invariant)

pub returns-clause-some : goal.returns-clause-some
returns-clause-some c =
    subst (λ l. AreSome l c.loop-change.told.items)
    (take_all c.loop-change.change-index c.args.changes.now (omega arith)) c.loop-change.invariant.some

pub returns-clause-gone : goal.returns-clause-gone
returns-clause-gone c = λ text.
    subst (λ l. times text (gone_texts (comment_texts c.args.old.now) c.loop-change.told.items)
    ≡ times text (gone_texts (comment_texts c.args.old.now) l) - times text (new_texts (comment_texts c.args.new.now) c.args.changes.now))
    (take_all c.loop-change.change-index c.args.changes.now (omega arith)) (c.loop-change.invariant.gone text)

pub returns-clause-new_ones : goal.returns-clause-new_ones
returns-clause-new_ones c = λ text.
    subst (λ l. times text (new_texts (comment_texts c.args.new.now) c.loop-change.told.items)
    ≡ times text (new_texts (comment_texts c.args.new.now) l) - times text (gone_texts (comment_texts c.args.old.now) c.args.changes.now))
    (take_all c.loop-change.change-index c.args.changes.now (omega arith)) (c.loop-change.invariant.new_ones text)
