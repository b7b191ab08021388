use Rattle.std.proofs.Common.{◌≡◌, ◌++◌, take}
use Rattle.diagnostics.specs.RunReasons.{unknown_reasons}
use Rattle.diagnostics.proofs.reasons.put_unknown.Given as goal

abbrev pub invariant-loop-name : goal.invariant-loop-name
invariant-loop-name l = l.reasons.items ≡ l.initial.reasons.items ++ unknown_reasons l.slots (take l.name-index l.values)
