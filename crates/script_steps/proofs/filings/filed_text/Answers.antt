use Rattle.std.proofs.Common.{string_bytes, []}
use Rattle.script_steps.specs.LineTexts.{due_line}
use Rattle.script_steps.proofs.DoneLemmas.{text_with}
use Rattle.script_steps.proofs.filings.filed_text.Goals as goal

pub loop-entry-preserved : goal.loop-entry-preserved
loop-entry-preserved c =
    text_with due_line c.args.entries.now c.loop-entry.entry-index c.entry-item.result []
    (string_bytes c.loop-entry.text) (string_bytes c.write_due.new.text) c.entry-item.is c.loop-entry-test.true
    c.in_ok-write_due.ensures c.loop-entry.invariant
