use Rattle.interval_num.proofs.MachineLemmas.{held_product}
use Rattle.std.proofs.Common.{refl}
use Rattle.interval_num.proofs.DivisorLemmas.{le_factors}
use Rattle.interval_num.proofs.alignment.times.Goals as goal

pub new-requires-clause-order : goal.new-requires-clause-order
new-requires-clause-order c =
    let lo = held_product c.lo.result c.args.factor c.args.a.lo c.args.factor c.lo.ensures.value refl c.lo.ensures.kept.ends.low c.requires.kept c.requires.low in
    let hi = held_product c.hi.result c.args.factor c.args.a.hi c.args.factor c.hi.ensures.value refl c.hi.ensures.kept.ends.high c.requires.kept c.requires.high in
    rw (lo, hi) (le_factors c.args.a.lo c.args.a.hi c.args.factor c.requires.above c.lo.ensures.kept.order)

pub returns-clause-value : goal.returns-clause-value
returns-clause-value c =
    let lo = held_product c.lo.result c.args.factor c.args.a.lo c.args.factor c.lo.ensures.value refl c.lo.ensures.kept.ends.low c.requires.kept c.requires.low in
    let hi = held_product c.hi.result c.args.factor c.args.a.hi c.args.factor c.hi.ensures.value refl c.hi.ensures.kept.ends.high c.requires.kept c.requires.high in
    cc (c.new.ensures, lo, hi, c.s_lo.ensures.value)

pub returns-clause-order : goal.returns-clause-order
returns-clause-order c = rw (returns-clause-value c) (le_factors c.args.a.lo c.args.a.hi c.args.factor c.requires.above c.lo.ensures.kept.order)
