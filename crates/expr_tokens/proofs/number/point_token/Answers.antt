use Rattle.std.proofs.Common.{refl, subst}
use Rattle.scaled_decimal.proofs.Laws.{number_once}
use Rattle.pap_tree.specs.Tokens.{IsPoint, great_point}
use Rattle.expr_tokens.proofs.ValueLemmas.{point_spells}
use Rattle.expr_tokens.proofs.number.point_token.Goals as goal

pub returns-in-Ok : goal.returns-in-Ok
returns-in-Ok c =
    let text = c.args.text.now in
    let d = c.requires.0 in
    let read = (c.in-Ok.ensures.number c.in-Ok.number).0 refl in
    let same = number_once text d c.in-Ok.number (point_spells text d c.requires.1) read.0 in
    (subst (IsPoint text) same c.requires.1, read.1)

pub returns-in-Err : goal.returns-in-Err
returns-in-Err c =
    let text = c.args.text.now in
    let d = c.requires.0 in
    great_point d c.requires.1 (λ kept. let same = (c.in-Err.ensures.number d).1 (point_spells text d c.requires.1, kept) in absurd cc)
