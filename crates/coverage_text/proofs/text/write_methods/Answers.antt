use Rattle.coverage_text.specs.CoverageTexts.{method_line}
use Rattle.coverage_text.proofs.CountLemmas.{one_more}
use Rattle.coverage_text.proofs.text.write_methods.Goals as goal

pub loop-method-preserved : goal.loop-method-preserved
loop-method-preserved c =
    one_more method_line c.args.methods.now c.loop-method.method-index c.method-item.result c.args.out.now.items
    c.loop-method.out.items c.write_method.new.out.items c.method-item.is c.loop-method-test.true c.loop-method.invariant
    c.in_ok-write_method.ensures
