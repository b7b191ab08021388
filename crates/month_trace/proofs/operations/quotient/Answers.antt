use Rattle.std.proofs.Common.{Some, sym, ap, ◌∙◌}
use Rattle.scaled_decimal.specs.RoundedDecimals.{quotient}
use Rattle.month_trace.proofs.OperationLemmas.{unless_is}
use Rattle.month_trace.proofs.operations.quotient.Goals as goal

pub returns : goal.returns
returns c =
    unless_is c.args.b (quotient c.args.mode c.args.scale c.args.a c.args.b) c.requires.defined
    ∙ ap (λ q. Some q) (sym c.quotient.ensures)
