-- The order of months, and the days up to the end of one.
use Rattle.std.specs.Prelude.{Bool}
use Rattle.std.specs.declared.cmp.Ordering.{Ordering}
use Rattle.std.specs.Ordering.{is_le, nat_cmp, on, ordering_then, then_cmp}
use Rattle.payroll_records.specs.declared.day.Day.{Day}
use Rattle.payroll_records.specs.declared.month.Month.{Month}

-- by year, then by month
abbrev pub month_cmp : Month → Month → Ordering
month_cmp = then_cmp (on (λ m. m.year) nat_cmp) (on (λ m. m.month) nat_cmp)

-- whether the day lies in the month or in an earlier one
abbrev pub is_up_to : Month → Day → Bool
is_up_to m d = is_le (ordering_then (nat_cmp d.year m.year) (nat_cmp d.month m.month))
