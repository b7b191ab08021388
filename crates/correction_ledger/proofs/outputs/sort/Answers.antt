use Rattle.std.proofs.lemmas.List.Sorted.{answers_always}
use Rattle.std.proofs.Common.{rules}
use Rattle.correction_ledger.specs.private.RowViews.{due_name}
use Rattle.correction_ledger.proofs.outputs.sort.Goals as goal

pub returns-clause-sorted : goal.returns-clause-sorted
returns-clause-sorted c = c.sort_unstable_by_key.ensures.sorted due_name (answers_always _ _ _ (λ f a r g h. search rules))
