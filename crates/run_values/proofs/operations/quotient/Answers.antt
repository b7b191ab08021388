use Rattle.scaled_decimal.proofs.Laws.{quotient_only}
use Rattle.run_values.proofs.operations.quotient.Goals as goal

pub returns : goal.returns
returns c =
    quotient_only c.args.mode c.args.scale c.args.a c.args.b c.div.result c.requires.not_zero c.div.ensures
