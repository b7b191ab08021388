use Rattle.std.proofs.Common.{◌≡◌, ◌++◌, map}
use Rattle.std.specs.List.{AllByRecursion}
use Rattle.correction_ledger.specs.private.BalanceViews.{AreBothBounded, settled_of}
use Rattle.correction_ledger.proofs.filings.settled.Given as goal

abbrev pub invariant-loop-balance : goal.invariant-loop-balance
invariant-loop-balance l = record {
  bounded : AllByRecursion AreBothBounded l.balance-iterator;
  so_far : l.sums.items ++ map settled_of l.balance-iterator ≡ map settled_of l.initial.balance-iterator;
}
