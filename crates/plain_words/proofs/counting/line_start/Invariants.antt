use Rattle.std.proofs.Common.{◌≡◌, ℕ, ◌-◌, ◌<◌, ◌≤◌, true, false, get_or}
use Rattle.plain_words.specs.Positions.{is_line_feed}
use Rattle.plain_words.proofs.counting.line_start.Given as goal

-- behind the last line feed so far there is none
abbrev pub invariant-loop-i : goal.invariant-loop-i
invariant-loop-i l = record {
  within : l.start ≤ l.i;
  none : (k : ℕ) → l.start ≤ k → k < l.i → is_line_feed (get_or l.before k 0) ≡ false;
  last : 0 < l.start → is_line_feed (get_or l.before (l.start - 1) 0) ≡ true;
}
