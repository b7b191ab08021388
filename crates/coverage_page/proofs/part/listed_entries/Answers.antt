use Rattle.coverage_page.specs.CoverageParts.{method_entries}
use Rattle.coverage_page.specs.private.ItemLists.{is_in_list}
use Rattle.coverage_page.proofs.PartLemmas.{one_more_alone}
use Rattle.coverage_page.proofs.part.listed_entries.Goals as goal

pub loop-method-preserved : goal.loop-method-preserved
loop-method-preserved c =
    one_more_alone (method_entries (is_in_list c.args.list)) c.args.methods.now c.loop-method.method-index c.method-item.result c.loop-method.entries
    c.write_listed_of.new.entries c.method-item.is c.loop-method-test.true c.loop-method.invariant c.in_ok-write_listed_of.ensures
