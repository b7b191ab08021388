use Rattle.std.proofs.Common.{Ok, ◌∙◌, sym, ap₂, subst}
use Rattle.scaled_decimal.specs.Decimals.{decimal, numerator_of}
use Rattle.scaled_decimal.specs.RoundedDecimals.{quotient}
use Rattle.scaled_decimal.specs.WorkingNumbers.{QuotientFits}
use Rattle.scaled_decimal.specs.Limits.{IsWithinLimit}
use Rattle.interval_num.specs.declared.cause.RangeCause.TheVariants.{Wide, Divisor}
use Rattle.interval_num.specs.Alignment.{unless, has_zero, hull, corners}
use Rattle.interval_num.specs.Rows.{RowAnswer, quotient_is_wide, end_quotient}
use Rattle.interval_num.proofs.AlignmentLemmas.{unless_passes}
use Rattle.interval_num.proofs.CornerLemmas.{all_four}
use Rattle.interval_num.proofs.MachineLemmas.{held, held_is}
use Rattle.interval_num.proofs.QuotientLemmas.{tests_pass, can_divide, quotient_fits, low_end_inside, high_end_inside, quotient_sound}
use Rattle.interval_num.proofs.quotients.abs_div.Goals as goal

pub rounded_quotient-requires-clause-fits : goal.rounded_quotient-requires-clause-fits
rounded_quotient-requires-clause-fits c =
    let a = c.args.a in
    let b = c.args.b in
    let x = decimal a.lo a.s_hi in
    let y = decimal b.lo b.s_hi in
    let pass = tests_pass c.args.s a b (sym c.if-has_zero.ensures) (sym c.if-quotient_is_wide.ensures) in
    let fits = quotient_fits c.args.mode c.args.s x y (can_divide c.args.s a b x y c.requires c.low.ensures.kept.places pass (low_end_inside a c.low.ensures.kept) (low_end_inside b c.low-2.ensures.kept)) in
    subst (λ m. QuotientFits c.args.mode m c.low-2.result c.args.s) (sym c.low.ensures.value) (subst (λ n. QuotientFits c.args.mode x n c.args.s) (sym c.low-2.ensures.value) fits)

pub rounded_quotient-requires-2-clause-fits : goal.rounded_quotient-requires-2-clause-fits
rounded_quotient-requires-2-clause-fits c =
    let a = c.args.a in
    let b = c.args.b in
    let x = decimal a.lo a.s_hi in
    let y = decimal b.hi b.s_hi in
    let pass = tests_pass c.args.s a b (sym c.if-has_zero.ensures) (sym c.if-quotient_is_wide.ensures) in
    let fits = quotient_fits c.args.mode c.args.s x y (can_divide c.args.s a b x y c.requires c.low-3.ensures.kept.places pass (low_end_inside a c.low-3.ensures.kept) (high_end_inside b c.high.ensures.kept)) in
    subst (λ m. QuotientFits c.args.mode m c.high.result c.args.s) (sym c.low-3.ensures.value) (subst (λ n. QuotientFits c.args.mode x n c.args.s) (sym c.high.ensures.value) fits)

pub rounded_quotient-requires-3-clause-fits : goal.rounded_quotient-requires-3-clause-fits
rounded_quotient-requires-3-clause-fits c =
    let a = c.args.a in
    let b = c.args.b in
    let x = decimal a.hi a.s_hi in
    let y = decimal b.lo b.s_hi in
    let pass = tests_pass c.args.s a b (sym c.if-has_zero.ensures) (sym c.if-quotient_is_wide.ensures) in
    let fits = quotient_fits c.args.mode c.args.s x y (can_divide c.args.s a b x y c.requires c.high-2.ensures.kept.places pass (high_end_inside a c.high-2.ensures.kept) (low_end_inside b c.low-4.ensures.kept)) in
    subst (λ m. QuotientFits c.args.mode m c.low-4.result c.args.s) (sym c.high-2.ensures.value) (subst (λ n. QuotientFits c.args.mode x n c.args.s) (sym c.low-4.ensures.value) fits)

pub rounded_quotient-requires-4-clause-fits : goal.rounded_quotient-requires-4-clause-fits
rounded_quotient-requires-4-clause-fits c =
    let a = c.args.a in
    let b = c.args.b in
    let x = decimal a.hi a.s_hi in
    let y = decimal b.hi b.s_hi in
    let pass = tests_pass c.args.s a b (sym c.if-has_zero.ensures) (sym c.if-quotient_is_wide.ensures) in
    let fits = quotient_fits c.args.mode c.args.s x y (can_divide c.args.s a b x y c.requires c.high-3.ensures.kept.places pass (high_end_inside a c.high-3.ensures.kept) (high_end_inside b c.high-4.ensures.kept)) in
    subst (λ m. QuotientFits c.args.mode m c.high-4.result c.args.s) (sym c.high-3.ensures.value) (subst (λ n. QuotientFits c.args.mode x n c.args.s) (sym c.high-4.ensures.value) fits)

pub hull-requires-clause-kept : goal.hull-requires-clause-kept
hull-requires-clause-kept c = all_four IsWithinLimit (held c.rounded_quotient.result) (held c.rounded_quotient-2.result) (held c.rounded_quotient-3.result) (held c.rounded_quotient-4.result) (subst IsWithinLimit (sym (held_is c.rounded_quotient.result c.rounded_quotient.ensures.kept)) c.rounded_quotient.ensures.kept) (subst IsWithinLimit (sym (held_is c.rounded_quotient-2.result c.rounded_quotient-2.ensures.kept)) c.rounded_quotient-2.ensures.kept) (subst IsWithinLimit (sym (held_is c.rounded_quotient-3.result c.rounded_quotient-3.ensures.kept)) c.rounded_quotient-3.ensures.kept) (subst IsWithinLimit (sym (held_is c.rounded_quotient-4.result c.rounded_quotient-4.ensures.kept)) c.rounded_quotient-4.ensures.kept)

pub returns-clause-exact : goal.returns-clause-exact
returns-clause-exact c =
    let a = c.args.a in
    let b = c.args.b in
    let q0 = held_is c.rounded_quotient.result c.rounded_quotient.ensures.kept ∙ c.rounded_quotient.ensures.value ∙ ap₂ (λ m n. numerator_of (quotient c.args.mode c.args.s m n)) c.low.ensures.value c.low-2.ensures.value in
    let q1 = held_is c.rounded_quotient-2.result c.rounded_quotient-2.ensures.kept ∙ c.rounded_quotient-2.ensures.value ∙ ap₂ (λ m n. numerator_of (quotient c.args.mode c.args.s m n)) c.low-3.ensures.value c.high.ensures.value in
    let q2 = held_is c.rounded_quotient-3.result c.rounded_quotient-3.ensures.kept ∙ c.rounded_quotient-3.ensures.value ∙ ap₂ (λ m n. numerator_of (quotient c.args.mode c.args.s m n)) c.high-2.ensures.value c.low-4.ensures.value in
    let q3 = held_is c.rounded_quotient-4.result c.rounded_quotient-4.ensures.kept ∙ c.rounded_quotient-4.ensures.value ∙ ap₂ (λ m n. numerator_of (quotient c.args.mode c.args.s m n)) c.high-3.ensures.value c.high-4.ensures.value in
    let answer : RowAnswer = Ok (hull (corners (end_quotient c.args.mode c.args.s a b) a b) c.args.s c.args.s) in
    let row = unless_passes (has_zero b) Divisor (unless (quotient_is_wide c.args.s a b) Wide answer) (sym c.if-has_zero.ensures) ∙ unless_passes (quotient_is_wide c.args.s a b) Wide answer (sym c.if-quotient_is_wide.ensures) in
    cc (row, c.hull.ensures, q0, q1, q2, q3)

pub returns-clause-sound : goal.returns-clause-sound
returns-clause-sound c = quotient_sound c.args.mode c.args.s c.args.a c.args.b c.hull.result c.requires c.low.ensures.kept.places (sym (returns-clause-exact c))
