use Rattle.book_edits.proofs.OrderLemmas.{loaded_permutation}
use Rattle.book_edits.proofs.groups.sort.Goals as goal

pub returns-clause-same : goal.returns-clause-same
returns-clause-same c = loaded_permutation c.args.items.now.items c.sort_unstable_by_key.new.self.items c.requires c.sort_unstable_by_key.ensures.permutation
