use Rattle.std.proofs.Common.{◌∙◌, sym}
use Rattle.scaled_decimal.specs.WholeNumbers.{whole_product}
use Rattle.interval_num.specs.private.Widths.{bits_of}
use Rattle.interval_num.specs.Soundness.{WholeIsSound}
use Rattle.interval_num.proofs.AlignmentLemmas.{if_ok}
use Rattle.interval_num.proofs.WholeLemmas.{whole_product_sound}
use Rattle.interval_num.proofs.MachineLemmas.{held_small_product, small_product_fits, of_width_small}
use Rattle.interval_num.proofs.wholes.mul.Goals as goal

pub overflow_mul-ends : goal.overflow_mul-ends
overflow_mul-ends c = small_product_fits c.lo.result c.lo-2.result c.args.a.lo c.args.b.lo c.lo.ensures.value c.lo-2.ensures.value (of_width_small c.args.width c.args.a.lo c.requires.left.low) (of_width_small c.args.width c.args.b.lo c.requires.right.low)

pub overflow_mul-ends-2 : goal.overflow_mul-ends-2
overflow_mul-ends-2 c = small_product_fits c.lo-3.result c.hi.result c.args.a.lo c.args.b.hi c.lo-3.ensures.value c.hi.ensures.value (of_width_small c.args.width c.args.a.lo c.requires.left.low) (of_width_small c.args.width c.args.b.hi c.requires.right.high)

pub overflow_mul-ends-3 : goal.overflow_mul-ends-3
overflow_mul-ends-3 c = small_product_fits c.hi-2.result c.lo-4.result c.args.a.hi c.args.b.lo c.hi-2.ensures.value c.lo-4.ensures.value (of_width_small c.args.width c.args.a.hi c.requires.left.high) (of_width_small c.args.width c.args.b.lo c.requires.right.low)

pub overflow_mul-ends-4 : goal.overflow_mul-ends-4
overflow_mul-ends-4 c = small_product_fits c.hi-3.result c.hi-4.result c.args.a.hi c.args.b.hi c.hi-3.ensures.value c.hi-4.ensures.value (of_width_small c.args.width c.args.a.hi c.requires.left.high) (of_width_small c.args.width c.args.b.hi c.requires.right.high)

pub returns-clause-exact : goal.returns-clause-exact
returns-clause-exact c =
    let p0 = held_small_product c.lo.result c.lo-2.result c.args.a.lo c.args.b.lo c.lo.ensures.value c.lo-2.ensures.value (of_width_small c.args.width c.args.a.lo c.requires.left.low) (of_width_small c.args.width c.args.b.lo c.requires.right.low) in
    let p1 = held_small_product c.lo-3.result c.hi.result c.args.a.lo c.args.b.hi c.lo-3.ensures.value c.hi.ensures.value (of_width_small c.args.width c.args.a.lo c.requires.left.low) (of_width_small c.args.width c.args.b.hi c.requires.right.high) in
    let p2 = held_small_product c.hi-2.result c.lo-4.result c.args.a.hi c.args.b.lo c.hi-2.ensures.value c.lo-4.ensures.value (of_width_small c.args.width c.args.a.hi c.requires.left.high) (of_width_small c.args.width c.args.b.lo c.requires.right.low) in
    let p3 = held_small_product c.hi-3.result c.hi-4.result c.args.a.hi c.args.b.hi c.hi-3.ensures.value c.hi-4.ensures.value (of_width_small c.args.width c.args.a.hi c.requires.left.high) (of_width_small c.args.width c.args.b.hi c.requires.right.high) in
    cc (c.whole_hull.ensures, p0, p1, p2, p3)

pub returns-clause-sound : goal.returns-clause-sound
returns-clause-sound c =
    if_ok c.whole_hull.result (WholeIsSound (bits_of c.args.width) whole_product c.args.a c.args.b) (λ r e.
    whole_product_sound (bits_of c.args.width) c.args.a c.args.b r c.requires.left.whole c.requires.right.whole (sym (returns-clause-exact c) ∙ e))
