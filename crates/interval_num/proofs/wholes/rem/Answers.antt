use Rattle.std.proofs.Common.{◌≡◌, ◌-ℤ◌, pos, Ok, refl, ◌∙◌, sym, ap₂, subst, arith}
use Rattle.std.proofs.lemmas.Int.{ints}
use Rattle.scaled_decimal.specs.Limits.{IsWithinLimit}
use Rattle.interval_num.specs.declared.cause.RangeCause.TheVariants.{Divisor}
use Rattle.interval_num.specs.Intervals.{interval}
use Rattle.interval_num.specs.Alignment.{has_zero, greatest_magnitude}
use Rattle.interval_num.specs.Rows.{RowAnswer, least_remainder, greatest_remainder}
use Rattle.interval_num.specs.private.Widths.{bits_of}
use Rattle.interval_num.proofs.AlignmentLemmas.{unless_passes}
use Rattle.interval_num.proofs.WholeLemmas.{whole_remainder_sound, remainder_order}
use Rattle.interval_num.proofs.MachineLemmas.{held, held_is, held_at, held_difference}
use Rattle.interval_num.proofs.wholes.rem.Goals as goal

pub new-requires-clause-order : goal.new-requires-clause-order
new-requires-clause-order c =
    let m = greatest_magnitude c.args.b -ℤ pos 1 in
    let one : IsWithinLimit (pos 1) = omega (arith, ints) in
    let less : held (held c.most-m.result -ℤ pos 1) ≡ m = held_difference c.most-m.result (pos 1) (greatest_magnitude c.args.b) (pos 1) c.most-m.ensures.value refl (subst IsWithinLimit c.most-m.ensures.value c.most-m.ensures.kept) one in
    let lo : held c.least_remainder-lo.result ≡ least_remainder c.args.a.lo m = held_is c.least_remainder-lo.result c.least_remainder-lo.ensures.kept ∙ c.least_remainder-lo.ensures.value ∙ ap₂ least_remainder (held_at c.lo.result c.args.a.lo c.lo.ensures.value c.lo.ensures.kept.ends.low) less in
    let hi : held c.greatest_remainder-hi.result ≡ greatest_remainder c.args.a.hi m = held_is c.greatest_remainder-hi.result c.greatest_remainder-hi.ensures.kept ∙ c.greatest_remainder-hi.ensures.value ∙ ap₂ greatest_remainder (held_at c.hi.result c.args.a.hi c.hi.ensures.value c.hi.ensures.kept.ends.high) less in
    rw (lo, hi) (remainder_order c.args.a.lo c.args.a.hi c.args.b c.lo.ensures.kept.order (sym c.if-has_zero.ensures) c.most-m.ensures.order)

pub returns-clause-exact : goal.returns-clause-exact
returns-clause-exact c =
    let m = greatest_magnitude c.args.b -ℤ pos 1 in
    let one : IsWithinLimit (pos 1) = omega (arith, ints) in
    let less : held (held c.most-m.result -ℤ pos 1) ≡ m = held_difference c.most-m.result (pos 1) (greatest_magnitude c.args.b) (pos 1) c.most-m.ensures.value refl (subst IsWithinLimit c.most-m.ensures.value c.most-m.ensures.kept) one in
    let lo : held c.least_remainder-lo.result ≡ least_remainder c.args.a.lo m = held_is c.least_remainder-lo.result c.least_remainder-lo.ensures.kept ∙ c.least_remainder-lo.ensures.value ∙ ap₂ least_remainder (held_at c.lo.result c.args.a.lo c.lo.ensures.value c.lo.ensures.kept.ends.low) less in
    let hi : held c.greatest_remainder-hi.result ≡ greatest_remainder c.args.a.hi m = held_is c.greatest_remainder-hi.result c.greatest_remainder-hi.ensures.kept ∙ c.greatest_remainder-hi.ensures.value ∙ ap₂ greatest_remainder (held_at c.hi.result c.args.a.hi c.hi.ensures.value c.hi.ensures.kept.ends.high) less in
    let answer : RowAnswer = Ok (interval (least_remainder c.args.a.lo m) (greatest_remainder c.args.a.hi m) 0 0) in
    let row = unless_passes (has_zero c.args.b) Divisor answer (sym c.if-has_zero.ensures) in
    cc (row, c.new.ensures, lo, hi)

pub returns-clause-sound : goal.returns-clause-sound
returns-clause-sound c = whole_remainder_sound (bits_of c.args.width) c.args.a c.args.b c.new.result c.requires.left c.requires.right.whole (sym (returns-clause-exact c))
