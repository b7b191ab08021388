use Rattle.std.proofs.Common.{sym, ◌∙◌, true≢false}
use Rattle.checked_run.proofs.operations.rescaled.Goals as goal

pub rescaled-requires : goal.rescaled-requires
rescaled-requires c = (c.rescale_fits.ensures c.args.mode).0 c.if-rescale_fits.true

pub returns-then-rescale_fits : goal.returns-then-rescale_fits
returns-then-rescale_fits c = λ kind t. (
  (c.rescale_fits.ensures c.args.mode).0 c.if-rescale_fits.true,
  c.rescaled.ensures,
)

pub returns-else-rescale_fits : goal.returns-else-rescale_fits
returns-else-rescale_fits c = λ kind t fits.
    true≢false (sym ((c.rescale_fits.ensures c.args.mode).1 fits) ∙ c.if-rescale_fits.false)
