use Rattle.std.proofs.Common.{◌≡◌, ◌≤◌, take, List, ℕ, length}
use Rattle.std.specs.Prelude.{IsTrue}
use Rattle.std.specs.List.{AllByRecursion}
use Rattle.csv.specs.Records.{fields_of}
use Rattle.pap_tree.specs.Names.{is_name}
use Rattle.payroll_records.specs.private.TableViews.{AreColumns}
use Rattle.payroll_records.proofs.HeaderLemmas.{begun}
use Rattle.payroll_records.proofs.header.read_header.Given as goal

abbrev pub invariant-loop-place : goal.invariant-loop-place
invariant-loop-place l = record {
  front : take l.place (fields_of l.row) ≡ begun l.header.names.items;
  columns : AreColumns l.header.names.items l.header.columns.items;
  named : AllByRecursion (λ (n : List ℕ). IsTrue (is_name n)) l.header.names.items;
  few : length (fields_of l.row) ≤ 259;
  same_row : l.row ≡ l.fn.row;
}
