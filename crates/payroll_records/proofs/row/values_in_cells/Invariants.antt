use Rattle.std.proofs.Common.{◌≡◌, length}
use Rattle.csv.specs.Records.{fields_of}
use Rattle.payroll_records.specs.private.CellViews.{AreValuesOf}
use Rattle.payroll_records.specs.KeptValues.{named_numbers}
use Rattle.payroll_records.proofs.row.values_in_cells.Given as goal

abbrev pub invariant-loop-column : goal.invariant-loop-column
invariant-loop-column l = record {
  same : length l.names.items ≡ length l.numbers.items;
  values : AreValuesOf l.header.names.items l.header.columns.items (fields_of l.row) l.column-index (named_numbers l.names.items l.numbers.items);
}
