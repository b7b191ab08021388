use Rattle.std.proofs.Common.{rules, ◌≡◌, ◌∙◌, ap, pos, refl, FitsSigned}
use Rattle.std.specs.Int.{w128}
use Rattle.std.proofs.lemmas.Int.{to_z-of_z}
use Rattle.std.specs.Str.Parse.{digits_value}
use Rattle.scaled_decimal.specs.Decimals.{numerator_of}
use Rattle.scaled_decimal.proofs.Laws.{number_once}
use Rattle.expr_tokens.proofs.ValueLemmas.{whole_of, numeral_spells, beyond_bits, in_64_bits}
use Rattle.expr_tokens.proofs.number.value_of.Goals as goal

pub returns-in-Ok : goal.returns-in-Ok
returns-in-Ok c =
    let text = c.args.numeral.now in
    let read = (c.in-Ok.ensures.number c.in-Ok.number).0 refl in
    let value : c.numerator.result ≡ pos (digits_value 10 text) = c.numerator.ensures.value ∙ ap numerator_of (number_once text c.in-Ok.number (whole_of text) read.0 (numeral_spells text (digits_value 10 text) c.requires)) in
    let fits : FitsSigned w128 c.numerator.result = search rules in
    let tried = simp to_z-of_z at c.try_from.ensures in
    in_64_bits c.try_from.result c.ok.result c.numerator.result (digits_value 10 text) tried c.ok.ensures.value value

pub returns-in-Err : goal.returns-in-Err
returns-in-Err c =
    let text = c.args.numeral.now in
    beyond_bits text (λ kept. let same = (c.in-Err.ensures.number (whole_of text)).1 (numeral_spells text (digits_value 10 text) c.requires, kept) in absurd cc)
