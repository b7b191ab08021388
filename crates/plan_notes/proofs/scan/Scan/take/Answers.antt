use Rattle.std.proofs.Common.{sym, subst}
use Rattle.std.specs.Prelude.{OnOk}
use Rattle.pap_reader.specs.Contents.{token_meant}
use Rattle.plan_notes.specs.Contents.{items_by, root_by}
use Rattle.plan_notes.specs.private.ScanViews.{Keeps}
use Rattle.plan_notes.proofs.NoteLemmas.{keeps_comment}
use Rattle.plan_notes.proofs.scan.Scan.take.Goals as goal

pub returns-in-Comment : goal.returns-in-Comment
returns-in-Comment c =
    let old = c.args.self.now in
    let new = c.keep_comment.new.self in
    let kept = c.keep_comment.ensures in
    subst (λ t. OnOk c.keep_comment.result (Keeps old new (items_by (token_meant t)) (λ before. root_by before (token_meant t))))
    (sym c.in-Comment.is)
    (keeps_comment old new c.in-Comment.inside.now c.keep_comment.result kept.told kept.marks kept.first kept.root)

pub returns-in-Tag : goal.returns-in-Tag
returns-in-Tag c =
    subst (λ t. OnOk c.keep_tag.result
    (Keeps c.args.self.now c.keep_tag.new.self (items_by (token_meant t)) (λ before. root_by before (token_meant t))))
    (sym c.in-Tag.is) c.keep_tag.ensures
