use Rattle.std.proofs.Common.{◌≡◌, ◌++◌}
use Rattle.std.specs.List.{AllByRecursion, filter_map}
use Rattle.correction_ledger.specs.private.BalanceViews.{AreBothBounded, owed_of}
use Rattle.correction_ledger.proofs.filings.owed.Given as goal

abbrev pub invariant-loop-balance : goal.invariant-loop-balance
invariant-loop-balance l = record {
  bounded : AllByRecursion AreBothBounded l.balance-iterator;
  so_far : l.dues.items ++ filter_map owed_of l.balance-iterator ≡ filter_map owed_of l.initial.balance-iterator;
}
