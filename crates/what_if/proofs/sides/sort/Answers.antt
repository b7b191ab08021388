use Rattle.std.proofs.lemmas.List.Sorted.{answers_always}
use Rattle.std.proofs.Common.{rules}
use Rattle.payroll_records.specs.NamedValues.{name_of}
use Rattle.what_if.proofs.sides.sort.Goals as goal

pub returns-clause-sorted : goal.returns-clause-sorted
returns-clause-sorted c = c.sort_unstable_by_key.ensures.sorted name_of
    (answers_always _ _ _ (λ f a r g h. search rules))
