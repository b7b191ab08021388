use Rattle.std.proofs.Common.{◌≡◌, ◌++◌, string_bytes}
use Rattle.std.specs.Str.{IsUtf8}
use Rattle.std.specs.Str.Iter.{chars_rest}
use Rattle.range_draft.proofs.DraftLemmas.{left_front}
use Rattle.range_draft.proofs.draft.write_front.Given as goal

abbrev pub invariant-loop-c : goal.invariant-loop-c
invariant-loop-c l = record {
  utf8 : IsUtf8 (chars_rest l.c-iterator);
  so_far : string_bytes l.text ++ left_front l.left (chars_rest l.c-iterator)
      ≡ string_bytes l.initial.text ++ left_front l.room l.comment;
}
