use Rattle.std.proofs.Common.{arith, FitsSigned, int_rem}
use Rattle.std.specs.Int.{w128}
use Rattle.std.proofs.lemmas.Int.{to_z-of_z}
use lib.Signed.{mag_rem}
use Rattle.scaled_decimal.proofs.ExactLemmas.{divides_from_rem, rem_from_divides, zero_bits, zero_test}
use Rattle.scaled_decimal.proofs.exact.divides.Goals as goal

pub returns : goal.returns
returns c =
    let fn : FitsSigned w128 c.args.n = c.ranges.n in
    let fd : FitsSigned w128 c.args.d = c.ranges.d in
    let fr : FitsSigned w128 (int_rem c.args.n c.args.d) = record { sfits = omega (arith, mag_rem c.args.n c.args.d, fn.sfits) } in
    rw (to_z-of_z w128 c.args.n fn, to_z-of_z w128 c.args.d fd) (
      (λ t. divides_from_rem c.args.d c.args.n (zero_bits (int_rem c.args.n c.args.d) fr t)),
      (λ h. zero_test (int_rem c.args.n c.args.d) (rem_from_divides c.args.d c.args.n c.requires h)),
    )
