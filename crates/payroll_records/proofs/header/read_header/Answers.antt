use Rattle.std.proofs.Common.{◌≡◌, arith, ◌∙◌}
use Rattle.csv.specs.Records.{fields_of}
use Rattle.payroll_records.specs.Tables.{field_of}
use Rattle.payroll_records.proofs.HeaderLemmas.{name_again}
use Rattle.payroll_records.proofs.header.read_header.Goals as goal

pub returns-then-not-branch : goal.returns-then-not-branch
returns-then-not-branch c = λ names h.
    let l = c.loop-place in
    let there = rw c.if-not-branch.true at c.in_ok-add_column.ensures in
    let name : c.in-Some.name ≡ field_of (fields_of c.args.row.now) l.place = c.in-Some.ensures.read ∙ c.field.ensures in
    name_again (fields_of c.args.row.now) names l.header.names.items l.place h (omega arith) l.invariant.front
    (rw name at there)
