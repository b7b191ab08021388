use Rattle.std.proofs.Common.{◌≡◌, ◌++◌, string_bytes, arith}
use Rattle.std.specs.Prelude.{encode_utf8}
use Rattle.range_draft.specs.Draft.{comment_line}
use Rattle.range_draft.proofs.DraftLemmas.{on_written, comment_written, no_comment}
use Rattle.range_draft.proofs.draft.write_comment.Goals as goal

pub returns-then-room-eq0 : goal.returns-then-room-eq0
returns-then-room-eq0 c = no_comment (string_bytes c.args.text.now) c.args.comment.now c.args.room c.if-room-eq0.true

pub returns : goal.returns
returns c =
    let old = string_bytes c.args.text.now in
    let comment = c.args.comment.now in
    let text = string_bytes c.write_front.new.text in
    let new = string_bytes c.push.new.self in
    on_written c.push.result new text (encode_utf8 10) (new ≡ old ++ comment_line c.args.room comment)
    c.push.ensures.bytes
    (λ b. comment_written old (string_bytes c.push_str.new.self) text new comment c.args.room
    (omega (arith, c.if-room-eq0.false))
    c.in_ok-push_str.ensures.bytes c.in_ok-write_front.ensures b)
