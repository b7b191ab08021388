use Rattle.std.proofs.Common.{◌≤◌, length, rules}
use Rattle.csv.specs.Records.{fields_of}
use Rattle.payroll_records.specs.Limits.{longest_table}
use Rattle.payroll_records.specs.Tables.{IsHeader}
use Rattle.payroll_records.proofs.TableLemmas.{table_refused}
use Rattle.payroll_records.proofs.table.read_table.Goals as goal

pub returns-clause-err : goal.returns-clause-err
returns-clause-err c =
    let bytes = c.args.bytes.now in
    let names = c.in_ok-header.header.names.items in
    let header = fields_of c.next_row.new.row in
    let short : length bytes ≤ longest_table = search rules in
    let is_header : IsHeader header names = search rules in
    table_refused bytes header names _ short (search rules) is_header _ c.read_records.result c.read_records.ensures
