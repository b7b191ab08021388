use Rattle.std.proofs.Common.{Some, None, sym}
use Rattle.payroll_records.proofs.ColumnLemmas.{field_is}
use Rattle.payroll_records.proofs.header.field.Goals as goal

pub returns-in-Some : goal.returns-in-Some
returns-in-Some c = sym (field_is _ c.args.place (Some c.in-Some.field.now) c.in-Some.ensures.value)

pub returns-in-None : goal.returns-in-None
returns-in-None c = sym (field_is _ c.args.place None c.in-None.ensures.value)
