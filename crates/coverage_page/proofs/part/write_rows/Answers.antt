use Rattle.coverage_text.proofs.Laws.{one_more}
use Rattle.coverage_page.specs.CoverageParts.{covered_row}
use Rattle.coverage_page.proofs.part.write_rows.Goals as goal

pub loop-method-preserved : goal.loop-method-preserved
loop-method-preserved c =
    one_more covered_row c.args.methods.now c.loop-method.method-index c.method-item.result c.args.part.now c.loop-method.part
    c.write_row.new.part c.method-item.is c.loop-method-test.true c.loop-method.invariant c.in_ok-write_row.ensures
