-- Why an edit of the runs is refused. Memory may run out only where nothing else stands against the edit.
use Rattle.std.specs.Prelude.{ℕ, ◌≡◌, ◌+◌, ◌<◌, ◌≤◌, List, IsSome, IsNone, Result, Ok, Err, ⊤}
use Rattle.payroll_records.specs.declared.day.Day.{Day}
use Rattle.payroll_records.specs.declared.record.Record.{Record}
use Rattle.payroll_records.specs.declared.when.When.{When}
use Rattle.payroll_records.specs.declared.when.When.TheVariants as when
pub use Rattle.payroll_records.specs.Limits.{most_records}
use Rattle.payroll_records.specs.Tables.{key_of}
use Rattle.book_edits.specs.declared.in_month.InMonth.{InMonth}
use Rattle.book_edits.specs.declared.in_month.InMonth.TheVariants.{Empty, One, Several}
use Rattle.book_edits.specs.declared.refusal.EditRefusal.{EditRefusal}
use Rattle.book_edits.specs.declared.refusal.EditRefusal.TheVariants as refusal
use Rattle.book_edits.specs.Books.{YearRuns, run_at, run_count, source_of, withdrawal}

-- no run stands at the record's key, and there is room for one more
pub record CanAdd (years : List YearRuns) (r : Record) : Type 0 where
  pub free : IsNone (run_at years (key_of r))
  pub room : run_count years + 1 ≤ most_records

-- no run stands at the record's key, and with it there would be too many
pub record HasMostRecords (years : List YearRuns) (r : Record) : Type 0 where
  pub free : IsNone (run_at years (key_of r))
  pub full : most_records < run_count years + 1

-- this stands against adding the run: its key has a run, or there are as many runs as a book may have; memory
-- may run out only where neither does
abbrev pub IsAddRefused : List YearRuns → Record → EditRefusal → Type 0
IsAddRefused years r (refusal.Present k) = (k ≡ key_of r) × IsSome (run_at years k)
IsAddRefused years r refusal.Records = HasMostRecords years r
IsAddRefused years r (refusal.Memory e) = CanAdd years r
IsAddRefused years r _ = ⊥

-- one run is meant
abbrev pub IsOne : InMonth → Type 0
IsOne (One k) = ⊤
IsOne _ = ⊥

-- the month of a day
abbrev pub IsMonthOf : Day → When → Type 0
IsMonthOf d (when.Month m) = (m.year ≡ d.year) × (m.month ≡ d.month)
IsMonthOf d (when.Day e) = ⊥

-- this stands against changing the run: the record means no run, or several of its month; memory may run out
-- only where it means one
abbrev pub IsChangeRefused : List YearRuns → Record → EditRefusal → Type 0
IsChangeRefused years r (refusal.Absent e w) =
    (e ≡ r.employee) × IsMonthOf r.day w × (source_of years r ≡ Empty)
IsChangeRefused years r (refusal.Several e m) =
    (e ≡ r.employee) × IsMonthOf r.day (when.Month m) × (source_of years r ≡ Several)
IsChangeRefused years r (refusal.Memory e) = IsOne (source_of years r)
IsChangeRefused years r _ = ⊥

-- this stands against withdrawing the run: the day or month means no run, or several; memory may run out only
-- where it means one
abbrev pub IsWithdrawRefused : List YearRuns → List ℕ → When → EditRefusal → Type 0
IsWithdrawRefused years e w (refusal.Absent e' w') =
    (e' ≡ e) × (w' ≡ w) × (withdrawal years e w ≡ Empty)
IsWithdrawRefused years e w (refusal.Several e' m) =
    (e' ≡ e) × (w ≡ when.Month m) × (withdrawal years e w ≡ Several)
IsWithdrawRefused years e w (refusal.Memory x) = IsOne (withdrawal years e w)
IsWithdrawRefused years e w _ = ⊥

-- ---- steps

-- a counter rose by exactly so many steps where the edit was made, by at most so many where memory ran out,
-- and by none with any other refusal
abbrev pub CountsEdit : {T : Type 0} → Result T EditRefusal → ℕ → ℕ → ℕ → Type 0
CountsEdit (Ok w) before now total = now ≡ before + total
CountsEdit (Err (refusal.Memory e)) before now total = (before ≤ now) × (now ≤ before + total)
CountsEdit (Err _) before now total = now ≡ before
