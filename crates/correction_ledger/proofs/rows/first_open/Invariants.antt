use Rattle.std.proofs.Common.{◌≡◌}
use Rattle.correction_ledger.specs.Open.{first_open}
use Rattle.correction_ledger.proofs.rows.first_open.Given as goal

abbrev pub invariant-loop-row : goal.invariant-loop-row
invariant-loop-row l = first_open l.month l.row-iterator ≡ first_open l.month l.initial.row-iterator
