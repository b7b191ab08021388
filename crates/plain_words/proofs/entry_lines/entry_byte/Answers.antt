use Rattle.std.proofs.Common.{refl, subst}
use Rattle.plain_words.specs.EntryPlaces.{HasWord, line_from}
use Rattle.plain_words.proofs.WordLemmas.{has_trans}
use Rattle.plain_words.proofs.entry_lines.entry_byte.Goals as goal

pub returns-then-is_entry_line : goal.returns-then-is_entry_line
returns-then-is_entry_line c =
    let line = line_from c.args.limits.now c.loop-at.at in
    let has = has_trans line c.line_at-line.result.now c.as_bytes-entry.result.now c.line_at-line.ensures (c.if-is_entry_line.ensures refl) in
    record { starts = c.if-begins_line.ensures refl; has = subst (HasWord line) c.as_bytes-entry.ensures.value has }
