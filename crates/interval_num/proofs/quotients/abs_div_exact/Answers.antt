use Rattle.std.proofs.Common.{◌≡◌, ◌+◌, ◌*ℤ◌, ◌||◌, nat_lt, false, Ok, ◌∙◌, sym, ap, ap₂, arith}
use Rattle.std.specs.Int.{w128}
use Rattle.std.proofs.lemmas.Int.{to_z-of_z}
use Rattle.std.proofs.lemmas.Bool.Decides.{nat_tests}
use Rattle.scaled_decimal.specs.Decimals.{numerator_of, scale_of}
use Rattle.scaled_decimal.specs.Limits.{most_places}
use Rattle.interval_num.specs.declared.cause.RangeCause.TheVariants.{Wide, Scale}
use Rattle.interval_num.specs.Intervals.{interval}
use Rattle.interval_num.specs.Alignment.{is_beyond, within_limit}
use Rattle.interval_num.specs.PlainDivisors.{divisor_places, cofactor}
use Rattle.interval_num.specs.Rows.{RowAnswer}
use Rattle.interval_num.proofs.AlignmentLemmas.{unless_passes}
use Rattle.interval_num.proofs.MachineLemmas.{held, held_is}
use Rattle.interval_num.proofs.DivisorLemmas.{places_are, cofactor_above, exact_quotient_sound}
use Rattle.interval_num.proofs.quotients.abs_div_exact.Goals as goal

pub times-requires-clause-above : goal.times-requires-clause-above
times-requires-clause-above c =
    let factor : held c.numerator-factor.result ≡ cofactor c.args.d = held_is c.numerator-factor.result c.numerator-factor.ensures.kept ∙ c.numerator-factor.ensures.value ∙ ap numerator_of c.reciprocal-reciprocal.ensures ∙ ap cofactor (to_z-of_z w128 c.args.d c.ranges.d) in
    rw factor (cofactor_above c.args.d c.requires)

pub returns-clause-exact : goal.returns-clause-exact
returns-clause-exact c =
    let a = c.args.a in
    let k = divisor_places c.args.d in
    let f = cofactor c.args.d in
    let factor : held c.numerator-factor.result ≡ f = held_is c.numerator-factor.result c.numerator-factor.ensures.kept ∙ c.numerator-factor.ensures.value ∙ ap numerator_of c.reciprocal-reciprocal.ensures ∙ ap cofactor (to_z-of_z w128 c.args.d c.ranges.d) in
    let places : c.s_hi.result + c.scale.result ≡ a.s_hi + k = ap₂ (λ m n. m + n) c.s_hi.ensures.value (c.scale.ensures.value ∙ ap scale_of c.reciprocal-reciprocal.ensures ∙ ap divisor_places (to_z-of_z w128 c.args.d c.ranges.d)) in
    let few : nat_lt most_places (a.s_hi + k) ≡ false = rw (← places) (grind (arith, nat_tests, c.if-s_hi-gt-MOST_PLACES.false)) in
    let small = ap (λ g. is_beyond (a.lo *ℤ g) || is_beyond (a.hi *ℤ g)) (sym factor) ∙ sym c.if-ends_beyond_times.ensures in
    let wide = interval (a.lo *ℤ f) (a.hi *ℤ f) a.s_lo (a.s_hi + k) in
    let answer : RowAnswer = Ok wide in
    let row = unless_passes (nat_lt most_places (a.s_hi + k)) Scale (within_limit wide) few ∙ unless_passes (is_beyond (a.lo *ℤ f) || is_beyond (a.hi *ℤ f)) Wide answer small in
    cc (row, c.times.ensures.value, factor, places)

pub returns-clause-sound : goal.returns-clause-sound
returns-clause-sound c = exact_quotient_sound c.args.d c.args.a c.times.result c.requires (sym (returns-clause-exact c))

pub returns-clause-places : goal.returns-clause-places
returns-clause-places c = places_are c.args.d c.requires

pub returns-then-s_hi-gt-MOST_PLACES-clause-places : goal.returns-then-s_hi-gt-MOST_PLACES-clause-places
returns-then-s_hi-gt-MOST_PLACES-clause-places c = places_are c.args.d c.requires

pub returns-then-ends_beyond_times-clause-places : goal.returns-then-ends_beyond_times-clause-places
returns-then-ends_beyond_times-clause-places c = places_are c.args.d c.requires
