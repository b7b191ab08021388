use Rattle.std.proofs.Common.{arith, ◌+◌}
use Rattle.std.proofs.lemmas.Str.{digit_value_digit}
use Rattle.scaled_decimal.proofs.DigitLemmas.{digit_at, digits_value_after_more, front_le}
use Rattle.scaled_decimal.proofs.reading.long_value_after.Goals as goal

pub overflow_sub-number : goal.overflow_sub-number
overflow_sub-number c = let digit = digit_at c.args.digits.now c.loop-digit.digit-index c.requires.digits (omega arith) in omega (arith, digit)

pub returns-then-number-gt-LIMIT : goal.returns-then-number-gt-LIMIT
returns-then-number-gt-LIMIT c =
    let i = c.loop-digit.digit-index in
    let digit = digit_at c.args.digits.now c.loop-digit.digit-index c.requires.digits (omega arith) in
    let value = digit_value_digit _ digit in
    let more = digits_value_after_more c.args.digits.now c.loop-digit.digit-index c.args.start (omega arith) in
    let front = front_le c.args.digits.now (c.loop-digit.digit-index + 1) c.args.start in
    λ h. absurd (omega (arith, h))

pub loop-digit-preserved : goal.loop-digit-preserved
loop-digit-preserved c =
    let digit = digit_at c.args.digits.now c.loop-digit.digit-index c.requires.digits (omega arith) in
    let value = digit_value_digit _ digit in
    let more = digits_value_after_more c.args.digits.now c.loop-digit.digit-index c.args.start (omega arith) in
    record { value = omega arith; kept = omega arith }
