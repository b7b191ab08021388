use Rattle.std.proofs.Common.{◌≡◌, take, fold}
use Rattle.std.specs.Int.{int_min, int_max}
use Rattle.interval_num.proofs.hull.hull.Given as goal

abbrev pub invariant-loop-n : goal.invariant-loop-n
invariant-loop-n l = record {
  lo : l.lo ≡ fold int_min l.initial.lo (take l.n-index l.numbers);
  hi : l.hi ≡ fold int_max l.initial.hi (take l.n-index l.numbers);
}
