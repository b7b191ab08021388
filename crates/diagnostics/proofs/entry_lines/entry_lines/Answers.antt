use Rattle.std.proofs.Common.{rules, string_bytes}
use Rattle.toml.specs.View.{table_view}
use Rattle.plain_words.specs.Places.{files_of}
use Rattle.diagnostics.specs.FaultLines.{IsEntryLine}
use Rattle.diagnostics.proofs.EntryLemmas.{tells_entries}
use Rattle.diagnostics.proofs.LineLemmas.{adds_each}
use Rattle.diagnostics.proofs.entry_lines.entry_lines.Goals as goal

pub returns : goal.returns
returns c =
    let files = files_of c.args.plan c.args.limits in
    let text = string_bytes c.put_lines.new.text in
    tells_entries files (table_view c.in_ok-table.table) c.in_ok-faults.faults.items c.deref.result.now text c.deref.ensures.value c.in_ok-table.ensures
    c.in_ok-faults.ensures
    (adds_each _ (IsEntryLine files) (λ fault words h. search rules) c.deref.result.now (string_bytes c.new-text.result) text c.new-text.ensures.bytes
    c.in_ok-put_lines.ensures)
