use Rattle.scaled_decimal.proofs.Laws.{rescaled_only}
use Rattle.run_values.proofs.operations.rescaled.Goals as goal

pub returns : goal.returns
returns c = rescaled_only c.args.mode c.args.scale c.args.a c.set_scale.result c.set_scale.ensures
