use Rattle.std.proofs.Common.{◌-◌, ◌^◌, ap, ap₂, subst, ◌∙◌}
use Rattle.scaled_decimal.specs.Decimals.{ten_to}
use Rattle.scaled_decimal.specs.Limits.{IsWithinLimit}
use Rattle.scaled_decimal.specs.laws.IntegerLemmas.{le_times}
use Rattle.interval_num.specs.Intervals.{interval}
use Rattle.interval_analysis.proofs.KeptLemmas.{product_is}
use Rattle.interval_analysis.proofs.statements.at_three_places.Goals as goal

pub new-requires-clause-order : goal.new-requires-clause-order
new-requires-clause-order c =
    let a = c.args.range in
    let power = c.power_of_ten-power.ensures.value ∙ ap (λ s. ten_to (3 - s)) c.s_hi.ensures.value in
    let kept = subst IsWithinLimit power c.power_of_ten-power.ensures.kept in
    let lo = product_is c.lo.result c.power_of_ten-power.result a.lo (ten_to (3 - a.s_hi)) c.lo.ensures.value power c.lo.ensures.kept.ends.low kept c.requires.ends.low in
    let hi = product_is c.hi.result c.power_of_ten-power.result a.hi (ten_to (3 - a.s_hi)) c.hi.ensures.value power c.hi.ensures.kept.ends.high kept c.requires.ends.high in
    rw (lo, hi) (le_times a.lo a.hi (10 ^ (3 - a.s_hi)) c.lo.ensures.kept.order)

pub returns : goal.returns
returns c =
    let a = c.args.range in
    let power = c.power_of_ten-power.ensures.value ∙ ap (λ s. ten_to (3 - s)) c.s_hi.ensures.value in
    let kept = subst IsWithinLimit power c.power_of_ten-power.ensures.kept in
    let lo = product_is c.lo.result c.power_of_ten-power.result a.lo (ten_to (3 - a.s_hi)) c.lo.ensures.value power c.lo.ensures.kept.ends.low kept c.requires.ends.low in
    let hi = product_is c.hi.result c.power_of_ten-power.result a.hi (ten_to (3 - a.s_hi)) c.hi.ensures.value power c.hi.ensures.kept.ends.high kept c.requires.ends.high in
    c.new.ensures ∙ ap₂ (λ l h. interval l h 3 3) lo hi
