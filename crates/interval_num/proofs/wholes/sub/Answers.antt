use Rattle.std.proofs.Common.{◌∙◌, sym}
use Rattle.scaled_decimal.specs.WholeNumbers.{whole_difference}
use Rattle.interval_num.specs.private.Widths.{bits_of}
use Rattle.interval_num.specs.Soundness.{WholeIsSound}
use Rattle.interval_num.proofs.AlignmentLemmas.{if_ok}
use Rattle.interval_num.proofs.WholeLemmas.{whole_difference_sound}
use Rattle.interval_num.proofs.MachineLemmas.{held_difference}
use Rattle.interval_num.proofs.wholes.sub.Goals as goal

pub returns-clause-exact : goal.returns-clause-exact
returns-clause-exact c =
    let p0 = held_difference c.lo.result c.lo-2.result c.args.a.lo c.args.b.lo c.lo.ensures.value c.lo-2.ensures.value c.lo.ensures.kept.ends.low c.lo-2.ensures.kept.ends.low in
    let p1 = held_difference c.lo-3.result c.hi.result c.args.a.lo c.args.b.hi c.lo-3.ensures.value c.hi.ensures.value c.lo-3.ensures.kept.ends.low c.hi.ensures.kept.ends.high in
    let p2 = held_difference c.hi-2.result c.lo-4.result c.args.a.hi c.args.b.lo c.hi-2.ensures.value c.lo-4.ensures.value c.hi-2.ensures.kept.ends.high c.lo-4.ensures.kept.ends.low in
    let p3 = held_difference c.hi-3.result c.hi-4.result c.args.a.hi c.args.b.hi c.hi-3.ensures.value c.hi-4.ensures.value c.hi-3.ensures.kept.ends.high c.hi-4.ensures.kept.ends.high in
    cc (c.whole_hull.ensures, p0, p1, p2, p3)

pub returns-clause-sound : goal.returns-clause-sound
returns-clause-sound c =
    if_ok c.whole_hull.result (WholeIsSound (bits_of c.args.width) whole_difference c.args.a c.args.b) (λ r e.
    whole_difference_sound (bits_of c.args.width) c.args.a c.args.b r c.requires.left.whole c.requires.right.whole (sym (returns-clause-exact c) ∙ e))
