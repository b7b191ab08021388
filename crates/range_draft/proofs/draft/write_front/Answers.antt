use Rattle.std.proofs.Common.{◌≡◌, ◌++◌, ◌-◌, ap, ◌∙◌, codes, map, string_bytes, arith}
use Rattle.std.specs.Str.{chars}
use Rattle.std.proofs.lemmas.List.{nil_from_length}
use Rattle.std.proofs.lemmas.Str.{IsUtf8-past_char}
use Rattle.range_draft.specs.Draft.{comment_char, front}
use Rattle.range_draft.proofs.DraftLemmas.{on_written, front_more, front_end, front_all}
use Rattle.range_draft.proofs.draft.write_front.Goals as goal

pub returns-then-left-lt4 : goal.returns-then-left-lt4
returns-then-left-lt4 c =
    let old = string_bytes c.args.text.now in
    let whole = front c.args.room (map comment_char (chars c.args.comment.now)) in
    let text = string_bytes c.loop-c.text in
    let new = string_bytes c.push_str.new.self in
    on_written c.push_str.result new text (codes "..") (new ≡ old ++ whole) c.push_str.ensures.bytes
    (λ b. front_end old whole text new _ _ c.in-Some.c c.loop-c.left c.loop-c.invariant.utf8
    c.in-Some.ensures.steps.0 c.if-left-lt4.true c.loop-c.invariant.so_far b)

pub loop-c-preserved : goal.loop-c-preserved
loop-c-preserved c =
    let old = string_bytes c.args.text.now in
    let whole = front c.args.room (map comment_char (chars c.args.comment.now)) in
    let i = c.loop-c.invariant in
    let step = c.in-Some.ensures.steps.0 in
    record {
      utf8 = IsUtf8-past_char _ _ c.in-Some.c i.utf8 step;
      so_far = front_more old whole (string_bytes c.loop-c.text) (string_bytes c.push.new.self) _ _ c.in-Some.c
          c.shown_char-shown.result c.loop-c.left c.saturating_sub-left.result i.utf8 step
          (omega (arith, c.if-left-lt4.false)) i.so_far
          c.shown_char-shown.ensures c.in_ok-push.ensures.bytes
          (c.saturating_sub-left.ensures ∙ ap (λ n. c.loop-c.left - n) c.len_utf8.ensures.value);
    }

pub returns : goal.returns
returns c =
    let old = string_bytes c.args.text.now in
    let whole = front c.args.room (map comment_char (chars c.args.comment.now)) in
    front_all old whole (string_bytes c.loop-c.text) _ c.loop-c.left (nil_from_length _ c.in-None.ensures.steps.0.0)
    c.loop-c.invariant.so_far
