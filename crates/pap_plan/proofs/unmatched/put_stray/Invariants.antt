use Rattle.std.proofs.Common.{◌≡◌, ◌++◌, take}
use Rattle.pap_tree.specs.Flowchart.{flowchart_of}
use Rattle.pap_plan.specs.LimitFaults.{stray_faults}
use Rattle.pap_plan.proofs.unmatched.put_stray.Given as goal

abbrev pub invariant-loop-binding : goal.invariant-loop-binding
invariant-loop-binding l =
    l.faults.items ≡ l.fn.faults.items ++ stray_faults (flowchart_of l.plan) l.ranges (take l.binding-index l.binding-items)
