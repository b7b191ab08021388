use Rattle.std.proofs.Common.{◌≡◌, length, rules}
use Rattle.std.specs.List.{insert}
use Rattle.payroll_records.proofs.ColumnLemmas.{name_stands, column_added}
use Rattle.payroll_records.proofs.header.add_column.Goals as goal

pub returns-in-Ok : goal.returns-in-Ok
returns-in-Ok c =
    let found = rw c.as_slice.ensures.value at c.in-Ok.ensures.found in
    name_stands _ _ c.args.name _ (record { name = c.args.name; place = 0 }) c.requires found

pub returns-in_ok-push-in-Err : goal.returns-in_ok-push-in-Err
returns-in_ok-push-in-Err c =
    let absent = rw c.as_slice.ensures.value at c.in-Err.ensures.absent in
    let items : c.insert.new.self.items ≡ insert c.args.header.now.columns.items c.in-Err.at (record { name = c.args.name; place = c.len-place.result }) = search rules in
    let place : c.len-place.result ≡ length c.args.header.now.names.items = search rules in
    record {
      names = c.in_ok-push-in-Err.ensures.items;
      are = rw (items, c.in_ok-push-in-Err.ensures.items, place) (column_added _ _ c.args.name c.in-Err.at c.requires absent);
    }
