use Rattle.std.proofs.Common.{arith}
use Rattle.book_edits.proofs.RecordLemmas.{puts_before}
use Rattle.book_edits.proofs.records.runs_before_all.Goals as goal

pub loop-item-preserved : goal.loop-item-preserved
loop-item-preserved c =
    let rs = c.args.records.now in
    let item = c.item-item.result in
    let before = c.runs_before.ensures in
    record {
      within = omega (arith, c.min-kept.ensures, before.within);
      same = puts_before c.args.items.now c.loop-item.item-index item rs c.loop-item.kept c.runs_before.result c.min-kept.result c.loop-item-test.true c.item-item.is c.min-kept.ensures c.loop-item.invariant.within before c.loop-item.invariant.same;
    }
