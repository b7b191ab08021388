use Rattle.pap_types.specs.Typing.{HasItsType}
use Rattle.run_values.proofs.StartLemmas.{declared_there}
use Rattle.run_values.proofs.values.push_first.Goals as goal

pub first_value-requires : goal.first_value-requires
first_value-requires c =
    declared_there HasItsType c.args.variables.now c.loop-variable.variable-index c.variable-item.result
    c.variable-item.is c.loop-variable-test.true c.requires
