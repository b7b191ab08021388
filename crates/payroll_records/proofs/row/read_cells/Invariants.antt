use Rattle.csv.specs.Records.{fields_of}
use Rattle.payroll_records.specs.private.CellViews.{AreNumbersOf}
use Rattle.payroll_records.proofs.row.read_cells.Given as goal

abbrev pub invariant-loop-place : goal.invariant-loop-place
invariant-loop-place l = AreNumbersOf (fields_of l.row) l.place l.numbers.items
