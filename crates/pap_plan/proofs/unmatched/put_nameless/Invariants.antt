use Rattle.std.proofs.Common.{◌≡◌, ◌++◌, take}
use Rattle.pap_tree.specs.Flowchart.{flowchart_of}
use Rattle.pap_plan.specs.LimitFaults.{nameless_faults}
use Rattle.pap_plan.proofs.unmatched.put_nameless.Given as goal

abbrev pub invariant-loop-limit : goal.invariant-loop-limit
invariant-loop-limit l = l.faults.items ≡ l.fn.faults.items ++ nameless_faults (flowchart_of l.plan) (take l.limit-index l.limits)
