use Rattle.payroll_records.proofs.CellLemmas.{spells_number, is_blank, is_broken, nothing_in, something_in}
use Rattle.payroll_records.proofs.row.read_cell.Goals as goal

pub returns-in-Ok-clause-ok : goal.returns-in-Ok-clause-ok
returns-in-Ok-clause-ok c = spells_number c.args.cell.now c.in-Ok.value c.read_dec.result c.in-Ok.is c.read_dec.ensures.number

pub returns-then-is_empty-clause-ok : goal.returns-then-is_empty-clause-ok
returns-then-is_empty-clause-ok c =
    is_blank c.args.cell.now c.in-Err.fault c.read_dec.result c.in-Err.is c.read_dec.ensures.number
    (nothing_in c.args.cell.now c.is_empty.result c.is_empty.ensures c.if-is_empty.true)

pub returns-else-is_empty-clause-err : goal.returns-else-is_empty-clause-err
returns-else-is_empty-clause-err c =
    is_broken c.args.cell.now c.in-Err.fault c.read_dec.result c.in-Err.is c.read_dec.ensures.number
    (something_in c.args.cell.now c.is_empty.result c.is_empty.ensures c.if-is_empty.false)
