use Rattle.std.proofs.Common.{arith}
use Rattle.recalc_engine.proofs.BookLemmas.{each_plan, one_plan}
use Rattle.recalc_engine.proofs.book.each_is_accepted.Goals as goal

pub returns : goal.returns
returns c = each_plan c.args.entries.now (λ k d lt. c.loop-entry.invariant k d (omega arith))

pub loop-entry-preserved : goal.loop-entry-preserved
loop-entry-preserved c =
    one_plan c.args.entries.now c.loop-entry.entry-index c.entry-item.result (omega arith) c.entry-item.is c.law.ensures c.loop-entry.invariant
