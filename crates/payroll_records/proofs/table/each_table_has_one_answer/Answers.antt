use Rattle.payroll_records.proofs.Laws.{table_once, table_some}
use Rattle.payroll_records.proofs.table.each_table_has_one_answer.Goals as goal

pub returns : goal.returns
returns c = λ bytes.
    let found = table_some bytes in
    record { answer = found.0; says = found.1; alone = λ other h. table_once bytes other found.0 h found.1 }
