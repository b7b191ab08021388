use Rattle.plain_words.specs.EntryPlaces.{IsLineWith}
use Rattle.plain_words.proofs.WordLemmas.{some_right}
use Rattle.plain_words.proofs.entry_lines.key_byte.Goals as goal

pub returns-in-None : goal.returns-in-None
returns-in-None c =
    some_right c.entry_byte.result (IsLineWith c.args.limits.now c.args.key.now) (IsLineWith c.args.limits.now c.args.entry.now) c.entry_byte.ensures
