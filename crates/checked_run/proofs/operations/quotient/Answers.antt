use Rattle.std.proofs.Common.{Some, sym, ap, ◌∙◌, true≢false}
use Rattle.scaled_decimal.specs.RoundedDecimals.{quotient}
use Rattle.checked_run.proofs.OperationLemmas.{quotient_there, quotient_given}
use Rattle.checked_run.proofs.operations.quotient.Goals as goal

pub quotient-requires-clause-fits : goal.quotient-requires-clause-fits
quotient-requires-clause-fits c = (c.quotient_fits.ensures c.args.mode).0 c.if-quotient_fits.true

pub returns-then-quotient_fits : goal.returns-then-quotient_fits
returns-then-quotient_fits c = λ kind.
    let a = c.args.a in
    let b = c.args.b in
    let mode = c.args.mode in
    let s = c.args.scale in (
      (c.quotient_fits.ensures mode).0 c.if-quotient_fits.true,
      quotient_given b (quotient mode s a b) (sym c.is_zero.ensures ∙ c.if-is_zero.false)
          ∙ ap (λ q. Some q) (sym c.quotient.ensures),
    )

pub returns-else-quotient_fits : goal.returns-else-quotient_fits
returns-else-quotient_fits c = λ kind. (
  quotient_there c.args.b (quotient c.args.mode c.args.scale c.args.a c.args.b)
      (sym c.is_zero.ensures ∙ c.if-is_zero.false),
  tt,
  λ fits. true≢false (sym ((c.quotient_fits.ensures c.args.mode).1 fits) ∙ c.if-quotient_fits.false),
)
