use Rattle.std.proofs.Common.{◌≡◌, ◌-◌, ◌*ℤ◌, Ok, ◌∙◌, sym, ap, subst}
use Rattle.scaled_decimal.specs.Decimals.{decimal, numerator_of, ten_to}
use Rattle.scaled_decimal.specs.RoundedDecimals.{rescaled}
use Rattle.scaled_decimal.specs.WorkingNumbers.{RescaleFits}
use Rattle.interval_num.specs.declared.cause.RangeCause.TheVariants.{Wide}
use Rattle.interval_num.specs.Intervals.{interval}
use Rattle.interval_num.specs.Alignment.{greatest_magnitude, is_beyond}
use Rattle.interval_num.specs.Rows.{RowAnswer, end_value}
use Rattle.interval_num.proofs.NumberLemmas.{within_out}
use Rattle.interval_num.proofs.AlignmentLemmas.{unless_passes}
use Rattle.interval_num.proofs.MachineLemmas.{held_is}
use Rattle.interval_num.proofs.QuotientLemmas.{can_rescale, low_end_inside, high_end_inside, value_order, rescaling_sound}
use Rattle.interval_num.proofs.quotients.abs_set_scale.Goals as goal

pub rounded_value-lo-requires : goal.rounded_value-lo-requires
rounded_value-lo-requires c =
    let a = c.args.a in
    let places : c.saturating_sub.result ≡ c.args.s - a.s_hi = c.saturating_sub.ensures ∙ ap (λ k. c.args.s - k) c.s_hi.ensures.value in
    let small = ap (λ k. is_beyond (greatest_magnitude a *ℤ ten_to k)) (sym places) ∙ sym c.if-lengthened_is_beyond.ensures in
    subst (λ x. RescaleFits c.args.mode x c.args.s) (sym c.low.ensures.value) (can_rescale c.args.mode c.args.s a (decimal a.lo a.s_hi) c.requires (within_out (greatest_magnitude a *ℤ ten_to (c.args.s - a.s_hi)) small) (low_end_inside a c.low.ensures.kept))

pub rounded_value-hi-requires : goal.rounded_value-hi-requires
rounded_value-hi-requires c =
    let a = c.args.a in
    let places : c.saturating_sub.result ≡ c.args.s - a.s_hi = c.saturating_sub.ensures ∙ ap (λ k. c.args.s - k) c.s_hi.ensures.value in
    let small = ap (λ k. is_beyond (greatest_magnitude a *ℤ ten_to k)) (sym places) ∙ sym c.if-lengthened_is_beyond.ensures in
    subst (λ x. RescaleFits c.args.mode x c.args.s) (sym c.high.ensures.value) (can_rescale c.args.mode c.args.s a (decimal a.hi a.s_hi) c.requires (within_out (greatest_magnitude a *ℤ ten_to (c.args.s - a.s_hi)) small) (high_end_inside a c.high.ensures.kept))

pub new-requires-clause-order : goal.new-requires-clause-order
new-requires-clause-order c =
    let lo = held_is c.rounded_value-lo.result c.rounded_value-lo.ensures.kept ∙ c.rounded_value-lo.ensures.value ∙ ap (λ x. numerator_of (rescaled c.args.mode c.args.s x)) c.low.ensures.value in
    let hi = held_is c.rounded_value-hi.result c.rounded_value-hi.ensures.kept ∙ c.rounded_value-hi.ensures.value ∙ ap (λ x. numerator_of (rescaled c.args.mode c.args.s x)) c.high.ensures.value in
    rw (lo, hi) (value_order c.args.mode c.args.s c.args.a c.args.a.lo c.args.a.hi c.low.ensures.kept.order)

pub returns-clause-exact : goal.returns-clause-exact
returns-clause-exact c =
    let a = c.args.a in
    let places : c.saturating_sub.result ≡ c.args.s - a.s_hi = c.saturating_sub.ensures ∙ ap (λ k. c.args.s - k) c.s_hi.ensures.value in
    let small = ap (λ k. is_beyond (greatest_magnitude a *ℤ ten_to k)) (sym places) ∙ sym c.if-lengthened_is_beyond.ensures in
    let lo = held_is c.rounded_value-lo.result c.rounded_value-lo.ensures.kept ∙ c.rounded_value-lo.ensures.value ∙ ap (λ x. numerator_of (rescaled c.args.mode c.args.s x)) c.low.ensures.value in
    let hi = held_is c.rounded_value-hi.result c.rounded_value-hi.ensures.kept ∙ c.rounded_value-hi.ensures.value ∙ ap (λ x. numerator_of (rescaled c.args.mode c.args.s x)) c.high.ensures.value in
    let answer : RowAnswer = Ok (interval (end_value c.args.mode c.args.s a a.lo) (end_value c.args.mode c.args.s a a.hi) c.args.s c.args.s) in
    let row = unless_passes (is_beyond (greatest_magnitude a *ℤ ten_to (c.args.s - a.s_hi))) Wide answer small in
    cc (row, c.new.ensures, lo, hi)

pub returns-clause-sound : goal.returns-clause-sound
returns-clause-sound c = rescaling_sound c.args.mode c.args.s c.args.a c.new.result c.requires (sym (returns-clause-exact c))
