use Rattle.interval_walk.specs.Admission.{IsAdmitted}
use Rattle.failing_input.proofs.SampleLemmas.{sound_at, zip_more}
use Rattle.failing_input.proofs.samples.sample.Goals as goal

pub value_of_choice-requires : goal.value_of_choice-requires
value_of_choice-requires c =
    let r = sound_at c.args.ranges.now c.loop-range.range-index c.range-item.result c.range-item.is
    c.loop-range-test.true c.requires in
    record { sound = r.sound; suits = r.suits }

pub loop-range-preserved : goal.loop-range-preserved
loop-range-preserved c =
    rw c.in_ok-push.ensures.items
    (zip_more (λ r v. IsAdmitted r.kind r.limit v) c.args.ranges.now c.loop-range.values.items
    c.loop-range.range-index c.range-item.result c.value_of_choice.result c.loop-range-test.true c.range-item.is
    c.loop-range.invariant c.value_of_choice.ensures)
