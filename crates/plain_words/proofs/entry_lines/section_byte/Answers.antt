use Rattle.std.proofs.Common.{refl, subst}
use Rattle.plain_words.specs.EntryPlaces.{HasWord, line_from}
use Rattle.plain_words.proofs.WordLemmas.{ends_trans, has_trans}
use Rattle.plain_words.proofs.entry_lines.section_byte.Goals as goal

pub returns-then-begins_with_key : goal.returns-then-begins_with_key
returns-then-begins_with_key c =
    let line = line_from c.args.limits.now c.loop-at.at in
    let shown = c.line_at-line.result.now in
    let text = c.without-text.result.now in
    let ends = ends_trans line shown text c.line_at-line.ensures
    (ends_trans shown c.without-heading.result.now text c.without-heading.ensures c.without-text.ensures) in
    let has = has_trans line text c.as_bytes-key.result.now ends (c.if-begins_with_key.ensures refl) in
    record { starts = c.if-begins_line.ensures refl; has = subst (HasWord line) c.as_bytes-key.ensures.value has }
