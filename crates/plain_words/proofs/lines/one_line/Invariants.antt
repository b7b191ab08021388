use Rattle.std.proofs.Common.{◌≡◌}
use Rattle.std.specs.Prelude.{map, encode_utf8_all}
use Rattle.std.specs.String.{string_bytes}
use Rattle.plain_words.specs.Lines.{shown_char}
use Rattle.plain_words.proofs.lines.one_line.Given as goal

abbrev pub invariant-loop-c : goal.invariant-loop-c
invariant-loop-c l = string_bytes l.line ≡ encode_utf8_all (map shown_char l.yielded)
