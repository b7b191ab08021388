use Rattle.std.proofs.Common.{◌≡◌, ◌++◌, drop}
use Rattle.pap_tree.specs.Flowchart.{flowchart_of}
use Rattle.run_trace.specs.StepLines.{traced_lines}
use Rattle.run_trace.proofs.step_text.write_steps.Given as goal

abbrev pub invariant-loop-step : goal.invariant-loop-step
invariant-loop-step l =
    l.out.items
    ++ traced_lines (flowchart_of l.telling.plan.now) l.telling.lines.now l.values (drop l.step-index l.steps)
    ≡ l.initial.out.items
    ++ traced_lines (flowchart_of l.telling.plan.now) l.telling.lines.now l.initial.values l.steps
