use Rattle.std.proofs.Common.{drop, string_bytes}
use Rattle.range_draft.specs.private.DraftViews.{texts_of}
use Rattle.range_draft.proofs.DraftLemmas.{AreBefore}
use Rattle.range_draft.proofs.draft.write_comments.Given as goal

abbrev pub invariant-loop-comment : goal.invariant-loop-comment
invariant-loop-comment l =
    AreBefore (string_bytes l.initial.text) (string_bytes l.text) (texts_of (drop l.comment-index l.comments))
    l.end (texts_of l.comments)
