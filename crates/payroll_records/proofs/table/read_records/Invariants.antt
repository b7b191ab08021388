use Rattle.std.proofs.Common.{length, ◌+◌}
use Rattle.payroll_records.specs.private.RowViews.{rows_left}
use Rattle.payroll_records.proofs.TableLemmas.{ReadSoFar}
use Rattle.payroll_records.proofs.table.read_records.Given as goal

abbrev pub invariant-rows : goal.invariant-rows
invariant-rows g l = ReadSoFar g.R.Read.remaining l.header.names.items l.fn.reader l.reader l.records.items l.keys (length l.records.items + 1)

abbrev pub decreases-rows : goal.decreases-rows
decreases-rows g l = length (rows_left g.R.Read.remaining l.reader)
