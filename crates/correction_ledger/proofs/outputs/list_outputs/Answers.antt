use Rattle.std.proofs.Common.{subst}
use Rattle.std.specs.List.Sorted.{IsPermutation}
use Rattle.correction_ledger.proofs.ListedLemmas.{listed_sorted}
use Rattle.correction_ledger.proofs.outputs.list_outputs.Goals as goal

pub returns : goal.returns
returns c =
    let same = subst (λ l. IsPermutation l c.sort.new.dues.items) c.in_ok-push_outputs.ensures c.sort.ensures.same in
    listed_sorted c.args.key.now c.args.outputs.now c.sort.new.dues.items c.requires.named same c.sort.ensures.sorted
