use Rattle.std.proofs.Common.{◌-◌, refl, subst, arith}
use Rattle.scaled_decimal.specs.Limits.{IsWithinLimit}
use Rattle.scaled_decimal.proofs.Laws.{rescale_fits_shorter}
use Rattle.checked_run.proofs.FitLemmas.{rescale_exactly}
use Rattle.checked_run.proofs.fits.rescale_fits.Goals as goal

pub returns-then-scale-places : goal.returns-then-scale-places
returns-then-scale-places c = λ mode. (
  λ t. rescale_fits_shorter mode c.args.a c.args.scale
      (subst IsWithinLimit c.numerator-kept.ensures.value c.numerator-kept.ensures.kept)
      (omega (arith, c.scale-places.ensures.value, c.scale-places.ensures.kept))
      (omega (arith, c.scale-places.ensures.value)),
  λ fits. refl,
)

pub returns : goal.returns
returns c = λ mode.
    rescale_exactly mode c.args.a c.args.scale (c.args.scale - c.scale-places.result) c.lengthened_fits.result
    (omega (arith, c.scale-places.ensures.value)) c.requires (omega (arith, c.scale-places.ensures.value))
    c.lengthened_fits.ensures
