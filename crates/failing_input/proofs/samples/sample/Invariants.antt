use Rattle.std.proofs.Common.{take}
use Rattle.std.specs.List.{AllZip}
use Rattle.interval_walk.specs.Admission.{IsAdmitted}
use Rattle.failing_input.proofs.samples.sample.Given as goal

abbrev pub invariant-loop-range : goal.invariant-loop-range
invariant-loop-range l =
    AllZip (λ r v. IsAdmitted r.kind r.limit v) (take l.range-index l.ranges) l.values.items
