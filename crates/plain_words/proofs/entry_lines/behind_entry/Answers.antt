use Rattle.plain_words.proofs.WordLemmas.{tail_is, word_is}
use Rattle.plain_words.proofs.entry_lines.behind_entry.Goals as goal

pub returns-in-Some-clause-has : goal.returns-in-Some-clause-has
returns-in-Some-clause-has c =
    word_is c.behind_key.result c.args.line.now c.in-Some.key.now c.args.entry.now c.in-Some.ensures c.behind_key.ensures.has

pub returns-in-Some-clause-tail : goal.returns-in-Some-clause-tail
returns-in-Some-clause-tail c =
    tail_is c.behind_key.result c.args.line.now c.in-Some.key.now c.in-Some.ensures c.behind_key.ensures.tail
