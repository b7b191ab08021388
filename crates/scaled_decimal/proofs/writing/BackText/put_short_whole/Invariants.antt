use Rattle.std.proofs.Common.{◌≡◌, ◌+◌, ◌≤◌, ◌++◌, length, map}
use Rattle.std.specs.Int.Digits.{digits_of}
use Rattle.scaled_decimal.specs.PlainTexts.{digit_byte, whole_text}
use Rattle.scaled_decimal.proofs.writing.BackText.put_short_whole.Given as goal

abbrev pub invariant-loop-left : goal.invariant-loop-left
invariant-loop-left l = record {
  text : map digit_byte (digits_of 10 l.left) ++ l.self ≡ whole_text l.n ++ l.initial.self;
  room : length l.self + length (digits_of 10 l.left) ≤ 70;
}

abbrev pub decreases-loop-left : goal.decreases-loop-left
decreases-loop-left l = l.left
