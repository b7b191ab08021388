use Rattle.std.proofs.Common.{string_bytes, []}
use Rattle.script_steps.specs.LineTexts.{step_line}
use Rattle.script_steps.proofs.DoneLemmas.{text_with}
use Rattle.script_steps.proofs.trace.trace_text.Goals as goal

pub loop-step-preserved : goal.loop-step-preserved
loop-step-preserved c =
    text_with step_line c.args.steps.now c.loop-step.step-index c.step-item.result []
    (string_bytes c.loop-step.text) (string_bytes c.write_step.new.text) c.step-item.is c.loop-step-test.true
    c.in_ok-write_step.ensures c.loop-step.invariant
