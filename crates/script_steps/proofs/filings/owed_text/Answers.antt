use Rattle.std.proofs.Common.{string_bytes, []}
use Rattle.script_steps.specs.LineTexts.{owed_line}
use Rattle.script_steps.proofs.DoneLemmas.{text_with}
use Rattle.script_steps.proofs.filings.owed_text.Goals as goal

pub loop-due-preserved : goal.loop-due-preserved
loop-due-preserved c =
    text_with owed_line c.args.dues.now c.loop-due.due-index c.due-item.result []
    (string_bytes c.loop-due.text) (string_bytes c.write_due.new.text) c.due-item.is c.loop-due-test.true
    c.in_ok-write_due.ensures c.loop-due.invariant
