use Rattle.std.proofs.Common.{◌≤◌, length}
use Rattle.plain_words.proofs.StopLemmas.{Behind}
use Rattle.plain_words.proofs.stops.tag_stop.Given as goal

abbrev pub invariant-loop-front : goal.invariant-loop-front
invariant-loop-front l = record {
  behind : Behind l.initial.left l.left;
  within : length l.left ≤ length l.initial.left;
}

abbrev pub decreases-loop-front : goal.decreases-loop-front
decreases-loop-front l = length l.left
