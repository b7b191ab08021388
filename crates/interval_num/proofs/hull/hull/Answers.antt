use Rattle.std.proofs.Common.{arith}
use Rattle.std.proofs.lemmas.Int.{to_z-of_z}
use Rattle.std.proofs.lemmas.List.Sums.{fold_more}
use Rattle.interval_num.proofs.HullLemmas.{found_hull}
use Rattle.interval_num.proofs.hull.hull.Goals as goal

pub loop-n-preserved : goal.loop-n-preserved
loop-n-preserved c = record {
  lo = grind (arith, to_z-of_z, fold_more);
  hi = grind (arith, to_z-of_z, fold_more);
}

pub new-requires-clause-low : goal.new-requires-clause-low
new-requires-clause-low c = (found_hull c.args.numbers.now _ _ c.loop-n.n-index c.requires.some c.requires.kept c.loop-n-test.false c.loop-n.invariant.lo c.loop-n.invariant.hi).low

pub new-requires-clause-high : goal.new-requires-clause-high
new-requires-clause-high c = (found_hull c.args.numbers.now _ _ c.loop-n.n-index c.requires.some c.requires.kept c.loop-n-test.false c.loop-n.invariant.lo c.loop-n.invariant.hi).high

pub new-requires-clause-order : goal.new-requires-clause-order
new-requires-clause-order c = (found_hull c.args.numbers.now _ _ c.loop-n.n-index c.requires.some c.requires.kept c.loop-n-test.false c.loop-n.invariant.lo c.loop-n.invariant.hi).order

pub returns : goal.returns
returns c =
    let h = found_hull c.args.numbers.now _ _ c.loop-n.n-index c.requires.some c.requires.kept c.loop-n-test.false c.loop-n.invariant.lo c.loop-n.invariant.hi in
    cc (c.new.ensures, h.lo, h.hi)
