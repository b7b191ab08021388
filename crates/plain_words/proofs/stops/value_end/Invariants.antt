use Rattle.std.proofs.Common.{◌≤◌, List, ℕ, length}
use Rattle.plain_words.specs.Strays.{ReadsValue}
use Rattle.plain_words.proofs.stops.value_end.Given as goal

abbrev pub invariant-loop-rest : goal.invariant-loop-rest
invariant-loop-rest l = record {
  reads : (rest : List ℕ) → ReadsValue l.quote l.left rest → ReadsValue l.quote l.text rest;
  within : length l.left ≤ length l.text;
}

abbrev pub decreases-loop-rest : goal.decreases-loop-rest
decreases-loop-rest l = length l.left
