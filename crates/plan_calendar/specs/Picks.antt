-- What the private functions say of picked entries.
use denote.Bor.{Bor}
use Rattle.payroll_records.specs.declared.day.Day.{Day}
use Rattle.plan_calendar.specs.Picking.{Entry}

-- a picked entry, with the plan that is lent
abbrev pub picked_entry : {P : Type 0} → Day × Bor P → Entry P
picked_entry p = (p.0, p.1.now)
