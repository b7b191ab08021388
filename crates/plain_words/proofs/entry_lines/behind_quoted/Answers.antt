use Rattle.plain_words.proofs.WordLemmas.{behind_is, ends_trans, front_is, has_word}
use Rattle.plain_words.proofs.entry_lines.behind_quoted.Goals as goal

pub returns-in-Some-clause-has : goal.returns-in-Some-clause-has
returns-in-Some-clause-has c =
    has_word c.behind_word-in-Some.result c.args.text.now c.args.key.now
    (front_is c.args.text.now c.without.result.now c.args.key.now c.in-Some.rest.now c.without.ensures c.in-Some.ensures)

pub returns-in-Some-clause-tail : goal.returns-in-Some-clause-tail
returns-in-Some-clause-tail c =
    let ends = ends_trans c.args.text.now c.without.result.now c.in-Some.rest.now c.without.ensures (c.args.key.now, c.in-Some.ensures) in
    behind_is c.behind_word-in-Some.result c.args.text.now c.in-Some.rest.now c.args.mark.now ends c.behind_word-in-Some.ensures
