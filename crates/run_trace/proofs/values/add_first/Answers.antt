use Rattle.pap_types.specs.Typing.{HasItsType}
use Rattle.run_trace.proofs.StepLemmas.{declared_holds}
use Rattle.run_trace.proofs.values.add_first.Goals as goal

pub first_value-requires : goal.first_value-requires
first_value-requires c =
    declared_holds HasItsType c.args.variables.now c.loop-variable.variable-index c.variable-item.result
    c.variable-item.is c.loop-variable-test.true c.requires
