use Rattle.std.proofs.Common.{arith, length, ap, sym, ◌++◌}
use Rattle.std.proofs.lemmas.Int.Digits.{length-digits_of_step}
use Rattle.scaled_decimal.proofs.PlainLemmas.{whole_some, whole_more, few_digits}
use Rattle.scaled_decimal.proofs.writing.BackText.put_short_whole.Goals as goal

pub loop-left-init : goal.loop-left-init
loop-left-init c =
    let few = few_digits c.args.n (omega arith) in
    record { text = ap (λ ds. ds ++ c.args.self.now) (sym (whole_some c.args.n (omega arith))); room = omega arith }

pub loop-left-preserved : goal.loop-left-preserved
loop-left-preserved c =
    let more = whole_more c.loop-left.left c.loop-left.self (omega arith) in
    let digits = length-digits_of_step 10 c.loop-left.left (omega arith) (omega arith) in
    let longer = ap length c.put-in-loop-left.ensures in
    record { text = cc (c.put-in-loop-left.ensures, more, c.loop-left.invariant.text); room = omega (arith, c.loop-left.invariant.room) }
