-- The orders of days and of keys.
use Rattle.std.specs.declared.cmp.Ordering.{Ordering}
use Rattle.std.specs.Ordering.{nat_cmp, then_cmp, on}
use Rattle.std.specs.Cmp.Lexicographic.{slice_cmp}
use Rattle.payroll_records.specs.declared.day.Day.{Day}
use Rattle.payroll_records.specs.declared.record.Key.{Key}

-- the order of days: by year, then by month, then by the day of the month
abbrev pub day_cmp : Day → Day → Ordering
day_cmp =
    then_cmp (on (λ d. d.year) nat_cmp)
    (then_cmp (on (λ d. d.month) nat_cmp) (on (λ d. d.day) nat_cmp))

-- the order of keys: by employee, in the order of its bytes, then by day
abbrev pub key_cmp : Key → Key → Ordering
key_cmp = then_cmp (on (λ k. k.employee) (slice_cmp nat_cmp)) (on (λ k. k.day) day_cmp)
