use Rattle.std.proofs.Common.{◌≡◌, ◌++◌, drop}
use Rattle.std.specs.Prelude.{false}
use Rattle.pap_tree.specs.Flowchart.{flowchart_of}
use Rattle.run_trace.specs.StepLines.{brackets, more_operands}
use Rattle.run_trace.proofs.telling.Telling.write_operands.Given as goal

abbrev pub invariant-loop-name : goal.invariant-loop-name
invariant-loop-name l =
    l.out.items
    ++ more_operands (flowchart_of l.self.plan.now) l.values (brackets l.opening l.closing) l.is_open (drop l.name-index l.reads)
    ≡ l.initial.out.items
    ++ more_operands (flowchart_of l.self.plan.now) l.values (brackets l.opening l.closing) false l.reads
