use Rattle.std.proofs.Common.{subst}
use Rattle.std.specs.List.Sorted.{IsPermutation}
use Rattle.what_if.proofs.OrderLemmas.{ordered_sorted}
use Rattle.what_if.proofs.sides.ordered.Goals as goal

pub returns : goal.returns
returns c =
    let same = subst (λ l. IsPermutation l c.sort.new.list.items) c.in_ok-list.ensures.items c.sort.ensures.same in
    ordered_sorted c.args.outputs.now c.sort.new.list.items c.requires same c.sort.ensures.sorted
