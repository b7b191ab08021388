use Rattle.std.proofs.Common.{◌+◌, ◌<◌, length, refl, arith}
use Rattle.failing_input.proofs.OutputLemmas.{beyond_behind}
use Rattle.failing_input.proofs.outputs.output_beyond.Goals as goal

pub returns-then-is_beyond : goal.returns-then-is_beyond
returns-then-is_beyond c =
    let within : c.args.inputs + c.loop-i.i < length c.args.values.now = omega (arith, c.requires, c.loop-i-test.true) in
    beyond_behind c.args.inputs (c.args.inputs + c.loop-i.i) c.args.outputs.now c.args.values.now c.loop-i.i
    c.index-outputs-i.result c.index-values-inputs.result refl c.loop-i-test.true within c.index-outputs-i.is
    c.index-values-inputs.is (c.is_beyond.ensures c.if-is_beyond.true)
