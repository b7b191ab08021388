use Rattle.std.proofs.Common.{◌≡◌, []}
use Rattle.correction_ledger.proofs.ReportedLemmas.{IsUnderway}
use Rattle.correction_ledger.proofs.rows.reported.Given as goal

abbrev pub invariant-loop-row : goal.invariant-loop-row
invariant-loop-row l = record {
  underway : IsUnderway l.initial.row-iterator l.month l.row-iterator l.dues.items;
  empty : l.of_run.items ≡ [];
}
