use Rattle.std.proofs.Common.{take}
use Rattle.std.specs.Prelude.{All}
use Rattle.pap_tree.specs.Declarations.{declaration_of}
use Rattle.interval_walk.specs.Admission.{HasLimit}
use Rattle.range_parts.proofs.limits.have_limits.Given as goal

abbrev pub invariant-loop-input : goal.invariant-loop-input
invariant-loop-input l = All (λ d. HasLimit l.limits (declaration_of d)) (take l.input-index l.inputs)
