-- What private contracts cite beside the definitions of Records.
use Rattle.std.specs.Borrow.{Bor}
use Rattle.payroll_records.specs.declared.day.Day.{Day}
use Rattle.payroll_records.specs.declared.record.Record.{Record}

abbrev pub reference_day : Bor Record → Day
reference_day r = r.now.day
