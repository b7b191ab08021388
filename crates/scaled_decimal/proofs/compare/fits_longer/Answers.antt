use Rattle.std.proofs.Common.{rules, arith, ◌≡◌, ◌-◌, ◌^◌, ◌∙◌, ap, FitsSigned, unsigned_abs}
use Rattle.std.specs.Int.{w128}
use Rattle.std.proofs.lemmas.Int.{to_z-of_z}
use Rattle.std.proofs.lemmas.Bool.Decides.{nat_tests}
use Rattle.scaled_decimal.proofs.PowerLemmas.{power_le}
use Rattle.scaled_decimal.proofs.OrderLemmas.{fits_longer}
use Rattle.scaled_decimal.proofs.compare.fits_longer.Goals as goal

pub power_of_ten-requires : goal.power_of_ten-requires
power_of_ten-requires c = power_le _ (omega arith)

pub returns : goal.returns
returns c =
    let own : FitsSigned w128 c.args.n = c.ranges.n in
    let held : FitsSigned w128 c.power_of_ten.result = search rules in
    let size : c.unsigned_abs.result ≡ unsigned_abs c.args.n = simp to_z-of_z at c.unsigned_abs.ensures.value in
    let power : c.unsigned_abs-2.result ≡ unsigned_abs c.power_of_ten.result = simp to_z-of_z at c.unsigned_abs-2.ensures.value in
    let most : c.unsigned_abs-2.result ≡ 10 ^ (37 - c.args.places) = power ∙ ap unsigned_abs c.power_of_ten.ensures.value in
    let exact = fits_longer c.args.n c.args.places (omega arith) in
    (λ test. exact.0 (grind (arith, nat_tests)), λ kept. (let small = exact.1 kept in grind (arith, nat_tests)))
