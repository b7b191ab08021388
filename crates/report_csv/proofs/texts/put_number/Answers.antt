use Rattle.std.proofs.Common.{◌≡◌, ◌<◌, ◌^◌, unsigned_abs, rules, ap, sym, ◌∙◌, arith}
use Rattle.std.specs.Fmt.{signed_decimal}
use Rattle.std.proofs.lemmas.Int.{ints}
use Rattle.scaled_decimal.specs.PlainTexts.{plain_text}
use Rattle.report_csv.proofs.NumberLemmas.{whole_plain}
use Rattle.report_csv.proofs.texts.put_number.Goals as goal

pub returns-in-Some : goal.returns-in-Some
returns-in-Some c =
    let small : unsigned_abs c.in-Some.n < 2 ^ 64 = omega (arith, ints) in
    let text : signed_decimal c.in-Some.n ≡ plain_text c.args.value = whole_plain c.in-Some.n small ∙ ap plain_text (sym c.in-Some.ensures) in
    search (text, rules)
