use Rattle.std.proofs.Common.{refl, subst}
use Rattle.plain_words.specs.EntryPlaces.{HasWord, line_from}
use Rattle.plain_words.proofs.WordLemmas.{has_trans}
use Rattle.plain_words.proofs.entry_lines.own_line.Goals as goal

pub returns-then-is_key_line : goal.returns-then-is_key_line
returns-then-is_key_line c =
    let line = line_from c.args.limits.now c.loop-at.at in
    let has = has_trans line c.line_at-line.result.now c.as_bytes-key.result.now c.line_at-line.ensures (c.if-is_key_line.ensures refl) in
    record { starts = c.if-begins_line.ensures refl; has = subst (HasWord line) c.as_bytes-key.ensures.value has }
