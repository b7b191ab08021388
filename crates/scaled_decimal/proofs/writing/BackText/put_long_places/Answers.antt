use Rattle.std.proofs.Common.{arith, ◌∙◌}
use Rattle.scaled_decimal.proofs.PlainLemmas.{length-last_digits, last_digits_more, quotient_more}
use Rattle.scaled_decimal.proofs.writing.BackText.put_long_places.Goals as goal

pub put-requires : goal.put-requires
put-requires c = rw c.loop.invariant.text (omega (arith, length-last_digits c.loop.counter c.args.n))

pub loop-preserved : goal.loop-preserved
loop-preserved c = record {
  text = cc (c.put.ensures, c.loop.invariant.text, c.loop.invariant.front, last_digits_more c.loop.counter c.args.n);
  front = rw c.loop.invariant.front (quotient_more c.loop.counter c.args.n);
}

pub returns-clause-room : goal.returns-clause-room
returns-clause-room c = rw c.loop.invariant.text (length-last_digits c.loop.counter c.args.n ∙ omega arith)
