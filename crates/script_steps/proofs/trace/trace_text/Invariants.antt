use Rattle.std.proofs.Common.{◌≡◌, take, string_bytes}
use Rattle.std.specs.List.{flat_map}
use Rattle.script_steps.specs.LineTexts.{step_line}
use Rattle.script_steps.proofs.trace.trace_text.Given as goal

abbrev pub invariant-loop-step : goal.invariant-loop-step
invariant-loop-step l = string_bytes l.text ≡ flat_map step_line (take l.step-index l.steps)
