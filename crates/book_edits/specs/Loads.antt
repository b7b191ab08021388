-- What a load promises.
use Rattle.std.specs.Prelude.{◌≡◌, ◌+◌, ◌<◌, ◌≤◌, List, Option, Some, None, find, is_some, length, option_map}
use Rattle.payroll_records.specs.declared.record.Key.{Key}
use Rattle.payroll_records.specs.declared.record.Record.{Record}
use Rattle.payroll_records.specs.Tables.{key_of}
use Rattle.book_edits.specs.declared.refusal.EditRefusal.{EditRefusal}
use Rattle.book_edits.specs.declared.refusal.EditRefusal.TheVariants as refusal
use Rattle.book_edits.specs.Books.{YearRuns, run_at, run_count}
use Rattle.book_edits.specs.Refusals.{most_records}

-- the key of the first record at which a run stands
abbrev pub first_present : List YearRuns → List Record → Option Key
first_present years items = option_map key_of (find (λ r. is_some (run_at years (key_of r))) items)

-- no run stands at a record's key, and there is room for all of them
pub record CanLoad (years : List YearRuns) (items : List Record) : Type 0 where
  pub free : first_present years items ≡ None
  pub room : run_count years + length items ≤ most_records

-- no run stands at a record's key, and there would be too many runs
pub record IsOver (years : List YearRuns) (items : List Record) : Type 0 where
  pub free : first_present years items ≡ None
  pub over : most_records < run_count years + length items

-- this stands against a load: a run at a record's key, or too many runs; memory may run out only where
-- neither does
abbrev pub IsLoadRefused : List YearRuns → List Record → EditRefusal → Type 0
IsLoadRefused years items (refusal.Present k) = first_present years items ≡ Some k
IsLoadRefused years items refusal.Records = IsOver years items
IsLoadRefused years items (refusal.Memory e) = CanLoad years items
IsLoadRefused years items _ = ⊥
