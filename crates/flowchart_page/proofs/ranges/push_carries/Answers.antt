use Rattle.std.proofs.Common.{string_bytes}
use Rattle.flowchart_page.proofs.RangeLemmas.{carries_more}
use Rattle.flowchart_page.proofs.ranges.push_carries.Goals as goal

pub loop-binding-preserved : goal.loop-binding-preserved
loop-binding-preserved c =
    carries_more c.args.bindings.now c.loop-binding.binding-index c.binding-item.result c.args.name.now
    (string_bytes c.args.text.now) (string_bytes c.loop-binding.text) (string_bytes c.push_carry.new.text)
    c.loop-binding-test.true c.binding-item.is c.loop-binding.invariant c.in_ok-push_carry.ensures
