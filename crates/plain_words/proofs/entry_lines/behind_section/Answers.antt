use Rattle.std.proofs.Common.{[], ◌∷◌}
use Rattle.plain_words.proofs.WordLemmas.{behind_is}
use Rattle.plain_words.proofs.entry_lines.behind_section.Goals as goal

pub returns-in-Some : goal.returns-in-Some
returns-in-Some c =
    behind_is c.behind_word-in-Some.result c.args.text.now c.in-Some.rest.now (46 ∷ []) (c.args.section.now, c.in-Some.ensures) c.behind_word-in-Some.ensures
