use Rattle.std.proofs.Common.{◌≡◌}
use Rattle.std.specs.Prelude.{encode_utf8_all, string_bytes}
use Rattle.plan_notes.specs.Lines.{is_blank}
use Rattle.plan_notes.proofs.Spaces.{line_of}
use Rattle.plan_notes.proofs.text.spaced.Given as goal

abbrev pub invariant-loop-c : goal.invariant-loop-c
invariant-loop-c l = record {
  text : string_bytes l.line ≡ encode_utf8_all (line_of is_blank l.yielded).letters;
  gap : l.is_gap ≡ (line_of is_blank l.yielded).gap;
}
