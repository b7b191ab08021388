use Rattle.std.proofs.Common.{◌∙◌}
use Rattle.author_cli.proofs.CoverWordLemmas.{no_number, other_number, spelled_otherwise, in_percent_word}
use Rattle.author_cli.proofs.covered_words.read_percent.Goals as goal

pub returns-in_default : goal.returns-in_default
returns-in_default c = no_number c.args.word.now c.parse.result c.in_default.field-0 c.parse.ensures.value.0 c.in_default.is

pub returns-then-eq : goal.returns-then-eq
returns-then-eq c =
    in_percent_word c.as_str.result.now c.args.word.now c.in-Ok.percent c.eq.result c.parse.result c.in_percent.result
    c.eq.ensures c.if-eq.true (c.as_str.ensures.value ∙ c.in_ok-spelled.ensures.ok) c.parse.ensures.value.0 c.in-Ok.is
    c.in_percent.ensures

pub returns : goal.returns
returns c =
    other_number c.args.word.now c.parse.result c.in-Ok.percent c.parse.ensures.value.0 c.in-Ok.is
    (spelled_otherwise c.as_str.result.now c.args.word.now c.in-Ok.percent c.eq.result c.eq.ensures c.if-eq.false
    (c.as_str.ensures.value ∙ c.in_ok-spelled.ensures.ok))
