use Rattle.plain_words.proofs.WordLemmas.{has_trans}
use Rattle.plain_words.proofs.entry_lines.is_key_line.Goals as goal

pub returns-in-Some : goal.returns-in-Some
returns-in-Some c = λ so.
    has_trans c.args.line.now c.in-Some.inner.now c.args.key.now c.in-Some.ensures (c.begins_with_key.ensures so)
