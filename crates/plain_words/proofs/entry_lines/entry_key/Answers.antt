use Rattle.std.proofs.Common.{[], ◌∷◌}
use Rattle.plain_words.proofs.WordLemmas.{ends_trans, tail_is}
use Rattle.plain_words.proofs.entry_lines.entry_key.Goals as goal

pub returns-in-Some-default : goal.returns-in-Some-default
returns-in-Some-default c =
    let heading = c.in-Some-default.heading.now in
    let ends = ends_trans c.args.line.now heading c.trimmed.result.now (91 ∷ [], c.in-Some-default.ensures)
    (ends_trans heading c.without.result.now c.trimmed.result.now c.without.ensures c.trimmed.ensures) in
    tail_is c.behind_section.result c.args.line.now c.trimmed.result.now ends c.behind_section.ensures
