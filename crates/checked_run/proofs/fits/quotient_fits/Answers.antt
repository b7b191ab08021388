use Rattle.std.proofs.Common.{◌+◌, ◌-◌, sym, subst, arith, true≢false}
use Rattle.scaled_decimal.specs.Limits.{IsWithinLimit}
use Rattle.checked_run.proofs.FitLemmas.{shorter_exactly, longer_exactly, quotient_power}
use Rattle.checked_run.proofs.fits.quotient_fits.Goals as goal

pub returns-then-places-own : goal.returns-then-places-own
returns-then-places-own c = λ mode.
    shorter_exactly mode c.args.a c.args.b c.args.scale (c.scale-own.result - (c.args.scale + c.scale.result))
    c.lengthened_fits.result c.requires.not_zero c.requires.places
    (omega (arith, c.scale-own.ensures.value, c.scale.ensures.value))
    (omega (arith, c.scale-own.ensures.value, c.scale-own.ensures.kept))
    (subst IsWithinLimit c.numerator-kept.ensures.value c.numerator-kept.ensures.kept)
    (omega (arith, c.scale-own.ensures.value, c.scale.ensures.value))
    c.lengthened_fits.ensures

pub returns-then-zeros-gt-MOST_POWER : goal.returns-then-zeros-gt-MOST_POWER
returns-then-zeros-gt-MOST_POWER c = λ mode. (
  λ t. absurd (true≢false (sym t)),
  λ fits. absurd (
      let few =
      quotient_power mode c.args.a c.args.b c.args.scale
      (omega (arith, c.scale-own.ensures.value, c.scale.ensures.value)) fits in
      omega (arith, few, c.scale-own.ensures.value, c.scale.ensures.value)),
)

pub returns : goal.returns
returns c = λ mode.
    longer_exactly mode c.args.a c.args.b c.args.scale (c.args.scale + c.scale.result - c.scale-own.result)
    c.lengthened_fits-2.result c.requires.not_zero c.requires.places
    (omega (arith, c.scale-own.ensures.value, c.scale.ensures.value)) (omega arith)
    (omega (arith, c.scale-own.ensures.value, c.scale.ensures.value))
    c.lengthened_fits-2.ensures
