use Rattle.std.proofs.Common.{◌≡◌, ◌++◌, replicate}
use Rattle.range_marks.proofs.text.push_zeros.Given as goal

-- so many zeros so far
abbrev pub invariant-loop : goal.invariant-loop
invariant-loop l = l.text.items ≡ l.initial.text.items ++ replicate l.counter 0x30
