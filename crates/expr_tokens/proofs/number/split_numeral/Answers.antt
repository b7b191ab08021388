use Rattle.std.proofs.Common.{◌∙◌, ap, take, drop}
use Rattle.expr_tokens.proofs.NumberLemmas.{zero_split, digits_split}
use Rattle.expr_tokens.proofs.number.split_numeral.Goals as goal

pub returns-in-Some : goal.returns-in-Some
returns-in-Some c =
    let s = c.split_at.ensures in
    let zero = c.in-Some.ensures in
    zero_split c.args.bytes.now c.split_at.result.0.now c.split_at.result.1.now c.in-Some.field-0.now zero (s.front ∙ ap (take 1) zero) (s.back ∙ ap (drop 1) zero)

pub returns-in-None : goal.returns-in-None
returns-in-None c = digits_split c.args.bytes.now c.split_digits.result.0.now c.split_digits.result.1.now c.requires c.in-None.ensures c.split_digits.ensures
