use Rattle.recalc_engine.proofs.ValueLemmas.{values_kept}
use Rattle.recalc_engine.proofs.values.each_value_is_kept.Goals as goal

pub returns : goal.returns
returns c = values_kept c.args.values.now c.numbers.result.now c.numbers.ensures.all c.each_is_kept.ensures
