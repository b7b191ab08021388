use Rattle.std.proofs.Common.{◌≡◌, ◌++◌, take}
use Rattle.diagnostics.specs.RunReasons.{outside_reasons}
use Rattle.diagnostics.proofs.reasons.put_outside.Given as goal

abbrev pub invariant-loop-slot : goal.invariant-loop-slot
invariant-loop-slot l = l.reasons.items ≡ l.initial.reasons.items ++ outside_reasons (take l.slot-index l.slots) l.values
