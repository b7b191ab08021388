use Rattle.std.proofs.Common.{[], ◌∷◌}
use Rattle.plain_words.proofs.WordLemmas.{behind_is}
use Rattle.plain_words.proofs.entry_lines.inner_key.Goals as goal

pub returns-in-Some : goal.returns-in-Some
returns-in-Some c =
    behind_is c.behind_word.result c.args.line.now c.in-Some.rest.now (46 ∷ []) c.in-Some.ensures.tail c.behind_word.ensures
