use Rattle.flowchart_markup.proofs.FragmentLemmas.{none_marked}
use Rattle.flowchart_markup.proofs.page.Page.new.Goals as goal

pub invariant_of-result : goal.invariant_of-result
invariant_of-result c = none_marked c.new.result.items c.new.ensures.items
