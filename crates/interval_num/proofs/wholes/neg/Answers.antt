use Rattle.std.proofs.Common.{◌∙◌, sym}
use Rattle.scaled_decimal.specs.WholeNumbers.{whole_opposite}
use Rattle.interval_num.specs.private.Widths.{bits_of}
use Rattle.interval_num.specs.Soundness.{WholeOppositeIsSound}
use Rattle.interval_num.proofs.AlignmentLemmas.{if_ok}
use Rattle.interval_num.proofs.WholeLemmas.{whole_opposite_sound}
use Rattle.interval_num.proofs.MachineLemmas.{held_opposite}
use Rattle.interval_num.proofs.wholes.neg.Goals as goal

pub returns-clause-exact : goal.returns-clause-exact
returns-clause-exact c =
    let lo = held_opposite c.hi.result c.args.a.hi c.hi.ensures.value c.hi.ensures.kept.ends.high in
    let hi = held_opposite c.lo.result c.args.a.lo c.lo.ensures.value c.lo.ensures.kept.ends.low in
    cc (c.whole_hull.ensures, lo, hi)

pub returns-clause-sound : goal.returns-clause-sound
returns-clause-sound c =
    if_ok c.whole_hull.result (WholeOppositeIsSound (bits_of c.args.width) whole_opposite c.args.a) (λ r e.
    whole_opposite_sound (bits_of c.args.width) c.args.a r c.requires.whole (sym (returns-clause-exact c) ∙ e))
