-- The records of an employee's calendar year, in order of day.
use Rattle.std.specs.Prelude.{ℕ, ◌≡◌, ◌≤◌, List, map, length, take, drop, false}
use Rattle.std.specs.List.{AllByRecursion}
use Rattle.std.specs.Ordering.{is_lt}
use Rattle.std.specs.declared.cmp.Ordering.TheVariants.{Less}
use Rattle.std.specs.Borrow.{Bor}
use Rattle.rising_lists.specs.Keyed.{put, without}
use Rattle.payroll_records.specs.declared.day.Day.{Day}
use Rattle.payroll_records.specs.declared.record.Record.{Record}
use Rattle.payroll_records.specs.Orders.{day_cmp}

-- the day of a record
abbrev pub record_day : Record → Day
record_day r = r.day

-- the records with this one at its day
abbrev pub put_run : Record → List Record → List Record
put_run r rs = put day_cmp record_day r rs

-- the records without that of a day
abbrev pub without_run : Day → List Record → List Record
without_run d rs = without day_cmp record_day d rs

-- the first records, so many, are those before this day
pub record AreBefore (day : Day) (rs : List Record) (count : ℕ) : Type 0 where
  pub within : count ≤ length rs
  pub before : AllByRecursion (λ r. day_cmp r.day day ≡ Less) (take count rs)
  pub others : AllByRecursion (λ r. is_lt (day_cmp r.day day) ≡ false) (drop count rs)

-- ---- references

-- the records that references lend
abbrev pub records_of : List (Bor Record) → List Record
records_of items = map (λ r. r.now) items

-- references to these records, in their order
abbrev pub ReferTo : List Record → List (Bor Record) → Type 0
ReferTo records items = records_of items ≡ records
