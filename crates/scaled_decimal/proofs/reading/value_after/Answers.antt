use Rattle.std.proofs.Common.{◌≡◌, ◌≤◌, ℕ, arith, ap, subst, take, drop, ◌∙◌}
use Rattle.std.specs.Option.{SomeIff}
use Rattle.std.specs.Str.Parse.{digits_value_after}
use Rattle.std.proofs.lemmas.List.{take_rest}
use Rattle.std.proofs.lemmas.Str.{digit_value_digit}
use Rattle.scaled_decimal.specs.Limits.{limit}
use Rattle.scaled_decimal.proofs.DigitLemmas.{digit_at, digits_behind, digits_value_after_more, goes_on}
use Rattle.scaled_decimal.proofs.reading.value_after.Goals as goal

pub long_value_after-requires-then-number-ge-SHORT-clause-digits : goal.long_value_after-requires-then-number-ge-SHORT-clause-digits
long_value_after-requires-then-number-ge-SHORT-clause-digits c =
    rw (take_rest c.args.digits.now c.loop-at.at) (digits_behind c.args.digits.now c.loop-at.at c.requires.digits)

pub returns-then-number-ge-SHORT : goal.returns-then-number-ge-SHORT
returns-then-number-ge-SHORT c =
    let i = c.loop-at.at in
    let digits = c.args.digits.now in
    let from : c.from.result ≡ digits_value_after 10 c.args.start (take i digits) = c.from.ensures ∙ c.loop-at.invariant in
    let whole = ap (λ ds. digits_value_after 10 c.from.result ds) (take_rest digits i) ∙ (ap (λ n. digits_value_after 10 n (drop i digits)) from ∙ goes_on digits i c.args.start) in
    subst (λ (n : ℕ). SomeIff c.long_value_after-then-number-ge-SHORT.result (n ≤ limit) n) whole c.long_value_after-then-number-ge-SHORT.ensures

pub overflow_sub-digit : goal.overflow_sub-digit
overflow_sub-digit c = let digit = digit_at c.args.digits.now c.loop-at.at c.requires.digits (omega arith) in omega (arith, digit)

pub loop-at-preserved : goal.loop-at-preserved
loop-at-preserved c =
    let digit = digit_at c.args.digits.now c.loop-at.at c.requires.digits (omega arith) in
    let value = digit_value_digit _ digit in
    let more = digits_value_after_more c.args.digits.now c.loop-at.at c.args.start (omega arith) in
    omega (arith, c.loop-at.invariant)
