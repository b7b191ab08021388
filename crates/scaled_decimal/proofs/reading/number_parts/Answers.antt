use Rattle.std.proofs.Common.{arith, ◌≡◌, ◌<◌, length}
use Rattle.std.proofs.lemmas.Bool.Decides.{nat_tests}
use Rattle.scaled_decimal.proofs.NumberLemmas.{ends_at_sign, ends_at_point, ends_in_places}
use Rattle.scaled_decimal.proofs.reading.number_parts.Goals as goal
use Rattle.scaled_decimal.proofs.reading.number_parts.Goals.{then-is_empty-3-via-then-is_empty-3, then-is_empty-3-via-else-is_empty-3+then-not-is_empty}

pub returns-then-is_empty-clause-err : goal.returns-then-is_empty-clause-err
returns-then-is_empty-clause-err c =
    let none : length c.split_digits.result.0.now ≡ 0 = grind (arith, nat_tests) in
    ends_at_sign c.args.text.now c.split_sign-negative.result.1.now c.split_sign-negative.result.0 c.split_digits.result.0.now c.split_digits.result.1.now c.split_sign-negative.ensures c.split_digits.ensures none

pub returns-in_default-clause-err : goal.returns-in_default-clause-err
returns-in_default-clause-err c =
    let some : 0 < length c.split_digits.result.0.now = grind (arith, nat_tests, c.if-is_empty.false) in
    let more : 0 < length c.split_digits.result.1.now = grind (arith, nat_tests, c.if-is_empty-2.false) in
    ends_at_point c.args.text.now c.split_sign-negative.result.1.now c.split_sign-negative.result.0 c.split_digits.result.0.now c.split_digits.result.1.now c.split_sign-negative.ensures c.split_digits.ensures some more c.in_default.ensures

pub returns-then-is_empty-3-clause-err : goal.returns-then-is_empty-3-clause-err
returns-then-is_empty-3-clause-err c =
    let some : 0 < length c.split_digits.result.0.now = grind (arith, nat_tests, c.if-is_empty.false) in
    let not : 0 < length c.split_digits-2.result.0.now → 0 < length c.split_digits-2.result.1.now =
    elim c.then-is_empty-3.branch [
      | then-is_empty-3-via-then-is_empty-3 w ↦ λ h. absurd (grind (arith, nat_tests, w.if-is_empty-3.true))
      | then-is_empty-3-via-else-is_empty-3+then-not-is_empty w ↦ λ h. grind (arith, nat_tests, w.if-not-is_empty.true)
    ] in
    ends_in_places c.args.text.now c.split_sign-negative.result.1.now c.split_sign-negative.result.0 c.split_digits.result.0.now c.split_digits.result.1.now c.in-Some.fraction.now c.split_digits-2.result.0.now c.split_digits-2.result.1.now c.split_sign-negative.ensures c.split_digits.ensures some c.in-Some.ensures c.split_digits-2.ensures not
