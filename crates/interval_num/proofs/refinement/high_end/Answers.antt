use Rattle.std.proofs.Common.{◌≡◌, ◌-◌, ◌*ℤ◌, ◌∙◌, max, ap₂, subst, arith}
use Rattle.scaled_decimal.specs.declared.rounding.Mode.TheVariants.{Floor}
use Rattle.scaled_decimal.specs.Decimals.{decimal, numerator_of, ten_to}
use Rattle.scaled_decimal.specs.RoundedDecimals.{rescaled}
use Rattle.scaled_decimal.specs.Limits.{IsWithinLimit}
use Rattle.interval_num.specs.Refinement.{gap}
use Rattle.interval_num.proofs.QuotientLemmas.{rescale_fits}
use Rattle.interval_num.proofs.MachineLemmas.{held_lowered}
use Rattle.interval_num.proofs.refinement.high_end.Goals as goal

pub rounded_value-end-requires : goal.rounded_value-end-requires
rounded_value-end-requires c =
    let v = c.args.v in
    let e = c.args.e in
    let places : max v.s_hi e.s_hi - e.s_hi ≡ v.s_hi - e.s_hi = omega arith in
    let kept = subst (λ k. IsWithinLimit (e.hi *ℤ ten_to k)) places c.requires.right.high in
    rw (c.s_hi.ensures.value, c.high.ensures.value) (rescale_fits Floor v.s_hi (decimal e.hi e.s_hi) c.s_hi.ensures.kept.places kept)

pub returns-clause-value : goal.returns-clause-value
returns-clause-value c =
    let v = c.args.v in
    let e = c.args.e in
    let b = numerator_of (rescaled Floor v.s_hi (decimal e.hi e.s_hi)) in
    let same : c.rounded_value-end.result ≡ b = c.rounded_value-end.ensures.value ∙ ap₂ (λ d s. numerator_of (rescaled Floor s d)) c.high.ensures.value c.s_hi.ensures.value in
    let end = held_lowered c.min.result c.hi-2.result c.rounded_value-end.result c.gap.result v.hi b (gap c.args.allowed c.args.whole) c.min.ensures.value c.hi-2.ensures.value same c.gap.ensures.value c.hi-2.ensures.kept.ends.high (subst IsWithinLimit same c.rounded_value-end.ensures.kept) (rw (← c.gap.ensures.value) c.gap.ensures.small) in
    rw c.if-allowed.false end.is

pub returns-clause-small : goal.returns-clause-small
returns-clause-small c =
    let v = c.args.v in
    let e = c.args.e in
    let b = numerator_of (rescaled Floor v.s_hi (decimal e.hi e.s_hi)) in
    let same : c.rounded_value-end.result ≡ b = c.rounded_value-end.ensures.value ∙ ap₂ (λ d s. numerator_of (rescaled Floor s d)) c.high.ensures.value c.s_hi.ensures.value in
    let end = held_lowered c.min.result c.hi-2.result c.rounded_value-end.result c.gap.result v.hi b (gap c.args.allowed c.args.whole) c.min.ensures.value c.hi-2.ensures.value same c.gap.ensures.value c.hi-2.ensures.kept.ends.high (subst IsWithinLimit same c.rounded_value-end.ensures.kept) (rw (← c.gap.ensures.value) c.gap.ensures.small) in
    rw end.is end.small
