use Rattle.std.proofs.Common.{subst, sym}
use Rattle.interval_num.specs.Soundness.{NegationIsSound}
use Rattle.interval_num.proofs.ExactLemmas.{negation_sound}
use Rattle.interval_num.proofs.MachineLemmas.{held_opposite}
use Rattle.interval_num.proofs.decimals.abs_neg.Goals as goal

pub returns-clause-exact : goal.returns-clause-exact
returns-clause-exact c =
    let lo = held_opposite c.hi.result c.args.a.hi c.hi.ensures.value c.hi.ensures.kept.ends.high in
    let hi = held_opposite c.lo.result c.args.a.lo c.lo.ensures.value c.lo.ensures.kept.ends.low in
    cc (c.new.ensures, lo, hi, c.s_lo.ensures.value, c.s_hi.ensures.value)

pub returns-clause-sound : goal.returns-clause-sound
returns-clause-sound c = subst (NegationIsSound c.args.a) (sym (returns-clause-exact c)) (negation_sound c.args.a)
