use Rattle.std.proofs.Common.{arith}
use Rattle.csv.specs.Records.{fields_of}
use Rattle.payroll_records.proofs.CellLemmas.{no_numbers, numbers_more, first_broken}
use Rattle.payroll_records.proofs.row.read_cells.Goals as goal

pub loop-place-init : goal.loop-place-init
loop-place-init c = rw c.in_ok-numbers.ensures.items (no_numbers (fields_of c.args.row.now))

pub loop-place-preserved : goal.loop-place-preserved
loop-place-preserved c =
    rw c.in_ok-push.ensures.items
    (numbers_more (fields_of c.args.row.now) c.loop-place.place c.loop-place.numbers.items c.in-Ok.number
    c.loop-place.invariant (rw c.field.ensures at c.in-Ok.ensures.ok))

pub returns-in_default-clause-err : goal.returns-in_default-clause-err
returns-in_default-clause-err c =
    first_broken (fields_of c.args.row.now) c.args.count c.loop-place.place c.loop-place.numbers.items (omega arith)
    c.loop-place.invariant (rw c.field.ensures at c.in_default.ensures.err)
