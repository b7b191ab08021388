use Rattle.std.proofs.Common.{string_bytes}
use Rattle.script_steps.specs.LineTexts.{trial_line}
use Rattle.script_steps.proofs.DoneLemmas.{text_with}
use Rattle.script_steps.proofs.trial.write_rows.Goals as goal

pub loop-row-preserved : goal.loop-row-preserved
loop-row-preserved c =
    text_with trial_line c.args.rows.now c.loop-row.row-index c.row-item.result (string_bytes c.args.text.now)
    (string_bytes c.loop-row.text) (string_bytes c.write_row.new.text) c.row-item.is c.loop-row-test.true
    c.in_ok-write_row.ensures c.loop-row.invariant
