use Rattle.pap_types.specs.Typing.{HasItsType}
use Rattle.interval_walk.specs.Admission.{HasLimit}
use Rattle.interval_analysis.proofs.StartLemmas.{declared_there}
use Rattle.interval_analysis.proofs.start.push_limited.Goals as goal

pub input_range-requires-clause-limit : goal.input_range-requires-clause-limit
input_range-requires-clause-limit c =
    declared_there (HasLimit c.args.limits.now) c.args.inputs.now c.loop-input.input-index c.input-item.result c.input-item.is c.loop-input-test.true c.requires.limits

pub input_range-requires-clause-typed : goal.input_range-requires-clause-typed
input_range-requires-clause-typed c = declared_there HasItsType c.args.inputs.now c.loop-input.input-index c.input-item.result c.input-item.is c.loop-input-test.true c.requires.typed
