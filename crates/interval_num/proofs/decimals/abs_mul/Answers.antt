use Rattle.std.proofs.Common.{◌≡◌, ◌+◌, ◌*ℤ◌, sym, ◌∙◌, subst, arith, nat_lt, false, Ok}
use Rattle.std.proofs.lemmas.Bool.Decides.{nat_tests}
use Rattle.scaled_decimal.specs.Limits.{IsWithinLimit, most_places}
use Rattle.interval_num.specs.declared.cause.RangeCause.TheVariants.{Wide, Scale}
use Rattle.interval_num.specs.Alignment.{unless, greatest_magnitude, is_beyond, hull, corners}
use Rattle.interval_num.specs.Rows.{RowAnswer, product_row}
use Rattle.interval_num.proofs.NumberLemmas.{within_out}
use Rattle.interval_num.proofs.AlignmentLemmas.{unless_passes}
use Rattle.interval_num.proofs.CornerLemmas.{product_sound, products_kept, all_four}
use Rattle.interval_num.proofs.MachineLemmas.{held, held_is, held_product, product_fits}
use Rattle.interval_num.proofs.decimals.abs_mul.Goals as goal

pub overflow_mul-ends : goal.overflow_mul-ends
overflow_mul-ends c =
    let small = rw (held_is c.most.result c.most.ensures.kept, held_is c.most-2.result c.most-2.ensures.kept, c.most.ensures.value, c.most-2.ensures.value) at c.if-product_is_beyond.ensures in
    let ends = products_kept c.args.a c.args.b (within_out (greatest_magnitude c.args.a *ℤ greatest_magnitude c.args.b) (sym small)) c.lo.ensures.kept.order c.lo-2.ensures.kept.order in
    product_fits c.lo.result c.lo-2.result c.args.a.lo c.args.b.lo c.lo.ensures.value c.lo-2.ensures.value c.lo.ensures.kept.ends.low c.lo-2.ensures.kept.ends.low ends.low_low

pub overflow_mul-ends-2 : goal.overflow_mul-ends-2
overflow_mul-ends-2 c =
    let small = rw (held_is c.most.result c.most.ensures.kept, held_is c.most-2.result c.most-2.ensures.kept, c.most.ensures.value, c.most-2.ensures.value) at c.if-product_is_beyond.ensures in
    let ends = products_kept c.args.a c.args.b (within_out (greatest_magnitude c.args.a *ℤ greatest_magnitude c.args.b) (sym small)) c.lo.ensures.kept.order c.lo-2.ensures.kept.order in
    product_fits c.lo-3.result c.hi.result c.args.a.lo c.args.b.hi c.lo-3.ensures.value c.hi.ensures.value c.lo-3.ensures.kept.ends.low c.hi.ensures.kept.ends.high ends.low_high

pub overflow_mul-ends-3 : goal.overflow_mul-ends-3
overflow_mul-ends-3 c =
    let small = rw (held_is c.most.result c.most.ensures.kept, held_is c.most-2.result c.most-2.ensures.kept, c.most.ensures.value, c.most-2.ensures.value) at c.if-product_is_beyond.ensures in
    let ends = products_kept c.args.a c.args.b (within_out (greatest_magnitude c.args.a *ℤ greatest_magnitude c.args.b) (sym small)) c.lo.ensures.kept.order c.lo-2.ensures.kept.order in
    product_fits c.hi-2.result c.lo-4.result c.args.a.hi c.args.b.lo c.hi-2.ensures.value c.lo-4.ensures.value c.hi-2.ensures.kept.ends.high c.lo-4.ensures.kept.ends.low ends.high_low

pub overflow_mul-ends-4 : goal.overflow_mul-ends-4
overflow_mul-ends-4 c =
    let small = rw (held_is c.most.result c.most.ensures.kept, held_is c.most-2.result c.most-2.ensures.kept, c.most.ensures.value, c.most-2.ensures.value) at c.if-product_is_beyond.ensures in
    let ends = products_kept c.args.a c.args.b (within_out (greatest_magnitude c.args.a *ℤ greatest_magnitude c.args.b) (sym small)) c.lo.ensures.kept.order c.lo-2.ensures.kept.order in
    product_fits c.hi-3.result c.hi-4.result c.args.a.hi c.args.b.hi c.hi-3.ensures.value c.hi-4.ensures.value c.hi-3.ensures.kept.ends.high c.hi-4.ensures.kept.ends.high ends.high_high

pub hull-requires-clause-kept : goal.hull-requires-clause-kept
hull-requires-clause-kept c =
    let small = rw (held_is c.most.result c.most.ensures.kept, held_is c.most-2.result c.most-2.ensures.kept, c.most.ensures.value, c.most-2.ensures.value) at c.if-product_is_beyond.ensures in
    let ends = products_kept c.args.a c.args.b (within_out (greatest_magnitude c.args.a *ℤ greatest_magnitude c.args.b) (sym small)) c.lo.ensures.kept.order c.lo-2.ensures.kept.order in
    let p0 = held_product c.lo.result c.lo-2.result c.args.a.lo c.args.b.lo c.lo.ensures.value c.lo-2.ensures.value c.lo.ensures.kept.ends.low c.lo-2.ensures.kept.ends.low ends.low_low in
    let p1 = held_product c.lo-3.result c.hi.result c.args.a.lo c.args.b.hi c.lo-3.ensures.value c.hi.ensures.value c.lo-3.ensures.kept.ends.low c.hi.ensures.kept.ends.high ends.low_high in
    let p2 = held_product c.hi-2.result c.lo-4.result c.args.a.hi c.args.b.lo c.hi-2.ensures.value c.lo-4.ensures.value c.hi-2.ensures.kept.ends.high c.lo-4.ensures.kept.ends.low ends.high_low in
    let p3 = held_product c.hi-3.result c.hi-4.result c.args.a.hi c.args.b.hi c.hi-3.ensures.value c.hi-4.ensures.value c.hi-3.ensures.kept.ends.high c.hi-4.ensures.kept.ends.high ends.high_high in
    all_four IsWithinLimit (held (held c.lo.result *ℤ held c.lo-2.result)) (held (held c.lo-3.result *ℤ held c.hi.result)) (held (held c.hi-2.result *ℤ held c.lo-4.result)) (held (held c.hi-3.result *ℤ held c.hi-4.result)) (subst IsWithinLimit (sym p0) ends.low_low) (subst IsWithinLimit (sym p1) ends.low_high) (subst IsWithinLimit (sym p2) ends.high_low) (subst IsWithinLimit (sym p3) ends.high_high)

pub returns-clause-exact : goal.returns-clause-exact
returns-clause-exact c =
    let small = rw (held_is c.most.result c.most.ensures.kept, held_is c.most-2.result c.most-2.ensures.kept, c.most.ensures.value, c.most-2.ensures.value) at c.if-product_is_beyond.ensures in
    let ends = products_kept c.args.a c.args.b (within_out (greatest_magnitude c.args.a *ℤ greatest_magnitude c.args.b) (sym small)) c.lo.ensures.kept.order c.lo-2.ensures.kept.order in
    let p0 = held_product c.lo.result c.lo-2.result c.args.a.lo c.args.b.lo c.lo.ensures.value c.lo-2.ensures.value c.lo.ensures.kept.ends.low c.lo-2.ensures.kept.ends.low ends.low_low in
    let p1 = held_product c.lo-3.result c.hi.result c.args.a.lo c.args.b.hi c.lo-3.ensures.value c.hi.ensures.value c.lo-3.ensures.kept.ends.low c.hi.ensures.kept.ends.high ends.low_high in
    let p2 = held_product c.hi-2.result c.lo-4.result c.args.a.hi c.args.b.lo c.hi-2.ensures.value c.lo-4.ensures.value c.hi-2.ensures.kept.ends.high c.lo-4.ensures.kept.ends.low ends.high_low in
    let p3 = held_product c.hi-3.result c.hi-4.result c.args.a.hi c.args.b.hi c.hi-3.ensures.value c.hi-4.ensures.value c.hi-3.ensures.kept.ends.high c.hi-4.ensures.kept.ends.high ends.high_high in
    let few : nat_lt most_places (c.args.a.s_hi + c.args.b.s_hi) ≡ false = grind (arith, nat_tests, c.if-s_hi-gt-MOST_PLACES.false) in
    let answer : RowAnswer = Ok (hull (corners (λ m n. m *ℤ n) c.args.a c.args.b) (c.args.a.s_lo + c.args.b.s_lo) (c.args.a.s_hi + c.args.b.s_hi)) in
    let row : product_row c.args.a c.args.b ≡ answer = unless_passes _ Scale (unless (is_beyond (greatest_magnitude c.args.a *ℤ greatest_magnitude c.args.b)) Wide answer) few ∙ unless_passes _ Wide answer (sym small) in
    cc (row, c.hull.ensures, p0, p1, p2, p3, c.s_hi.ensures.value, c.s_hi-2.ensures.value, c.s_lo.ensures.value, c.s_lo-2.ensures.value)

pub returns-clause-sound : goal.returns-clause-sound
returns-clause-sound c = product_sound c.args.a c.args.b c.hull.result (sym (returns-clause-exact c))
