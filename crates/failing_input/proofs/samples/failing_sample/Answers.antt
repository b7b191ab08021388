use Rattle.pap_tree.specs.Flowchart.{flowchart_of}
use Rattle.failing_input.proofs.SampleLemmas.{sound_ranges, chosen_admitted, failing_there}
use Rattle.failing_input.proofs.samples.failing_sample.Goals as goal

pub sample-requires : goal.sample-requires
sample-requires c =
    sound_ranges c.args.limits.now c.args.t.now.inputs.items c.args.ranges.now c.requires.ranges

pub failure_on-requires-clause-admitted : goal.failure_on-requires-clause-admitted
failure_on-requires-clause-admitted c =
    rw c.deref.ensures.value
    (chosen_admitted c.args.limits.now c.args.t.now.inputs.items c.args.ranges.now c.in_ok-inputs.inputs.items
    c.requires.ranges c.in_ok-inputs.ensures)

pub returns-in-Some : goal.returns-in-Some
returns-in-Some c =
    failing_there (flowchart_of c.args.t.now) c.args.limits.now c.in_ok-inputs.inputs.items c.deref.result.now _ _
    (chosen_admitted c.args.limits.now c.args.t.now.inputs.items c.args.ranges.now c.in_ok-inputs.inputs.items
    c.requires.ranges c.in_ok-inputs.ensures)
    c.in-Some.is c.in_ok-failure.ensures c.deref.ensures.value
