use Rattle.std.proofs.Common.{arith}
use Rattle.std.proofs.Math.ListN.{drop_of_length-le}
use Rattle.comparison_page.proofs.LaidLemmas.{laid_more, laid_all}
use Rattle.comparison_page.proofs.lines.write_laid.Goals as goal

pub loop-byte-preserved : goal.loop-byte-preserved
loop-byte-preserved c = record {
  within = c.in_ok-column.ensures.within;
  left = laid_more c.args.sign c.loop-byte.column _ c.args.text.now c.loop-byte.byte-index c.loop-byte.out.items
      c.place_byte.new.out.items _ c.loop-byte-test.true c.loop-byte.invariant.left c.in_ok-column.ensures.placed
      c.in_ok-column.ensures.next;
}

pub returns : goal.returns
returns c =
    laid_all c.args.sign c.loop-byte.column c.args.text.now c.loop-byte.byte-index c.loop-byte.out.items _
    (drop_of_length-le c.args.text.now (omega (arith, c.loop-byte-test.false))) c.loop-byte.invariant.left
