use Rattle.std.proofs.Common.{rules, arith, get_or}
use Rattle.std.specs.Int.{IsInRange}
use Rattle.std.proofs.lemmas.Str.{digit_value_digit}
use Rattle.std.proofs.lemmas.Int.Digits.{digits_more}
use Rattle.scaled_decimal.proofs.reading.digit_count.Goals as goal

pub loop-count-preserved : goal.loop-count-preserved
loop-count-preserved c =
    let digit : IsInRange 48 57 (get_or c.args.text.now c.loop-count.count 0) = search rules in
    let value = digit_value_digit _ digit in
    digits_more 10 c.args.text.now c.loop-count.count (omega arith) c.loop-count.invariant (omega arith)
