use Rattle.std.proofs.Common.{subst, sym}
use Rattle.interval_num.specs.Soundness.{MagnitudeIsSound}
use Rattle.interval_num.proofs.ExactLemmas.{magnitude_sound}
use Rattle.interval_num.proofs.MachineLemmas.{held_is}
use Rattle.interval_num.proofs.decimals.abs_abs.Goals as goal

pub returns-clause-exact : goal.returns-clause-exact
returns-clause-exact c =
    let lo = held_is c.least_magnitude.result c.least_magnitude.ensures.kept in
    let hi = held_is c.most.result c.most.ensures.kept in
    cc (c.new.ensures, lo, hi, c.least_magnitude.ensures.value, c.most.ensures.value, c.s_lo.ensures.value, c.s_hi.ensures.value)

pub returns-clause-sound : goal.returns-clause-sound
returns-clause-sound c = subst (MagnitudeIsSound c.args.a) (sym (returns-clause-exact c)) (magnitude_sound c.args.a)
