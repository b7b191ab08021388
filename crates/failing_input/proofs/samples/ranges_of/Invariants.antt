use Rattle.std.proofs.Common.{take}
use Rattle.std.specs.List.{AllZip}
use Rattle.pap_tree.specs.Declarations.{declaration_of}
use Rattle.failing_input.specs.private.SampleViews.{IsRangeOf}
use Rattle.failing_input.proofs.samples.ranges_of.Given as goal

abbrev pub invariant-loop-input : goal.invariant-loop-input
invariant-loop-input l =
    AllZip (λ d r. IsRangeOf l.limits (declaration_of d) r) (take l.input-index l.inputs) l.ranges.items
