use Rattle.std.proofs.Common.{◌≡◌, ◌++◌, map, take}
use Rattle.pap_tree.specs.Declarations.{declaration_of}
use Rattle.pap_plan.specs.LimitFaults.{unsuited_faults}
use Rattle.pap_plan.proofs.unmatched.put_unsuited.Given as goal

abbrev pub invariant-loop-input : goal.invariant-loop-input
invariant-loop-input l = l.faults.items ≡ l.fn.faults.items ++ unsuited_faults l.ranges (map declaration_of (take l.input-index l.inputs))
