use Rattle.std.proofs.Common.{sym}
use Rattle.plan_calendar.proofs.LastLemmas.{last_here, last_elsewhere}
use Rattle.plan_calendar.proofs.calendar.last_of_year.Goals as goal

pub returns-then-from-year : goal.returns-then-from-year
returns-then-from-year g c =
    last_here c.args.entries.now c.args.year c.in_ok-from.field-0.now (sym c.in_ok-from.ensures.value)
    c.if-from-year.true

pub returns-else-from-year : goal.returns-else-from-year
returns-else-from-year g c =
    last_elsewhere c.args.entries.now c.args.year c.in_ok-from.field-0.now (sym c.in_ok-from.ensures.value)
    c.if-from-year.false
