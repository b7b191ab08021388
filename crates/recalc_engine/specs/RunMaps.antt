-- Edits of the runs, as changes of the run at each key.
use Rattle.std.specs.Prelude.{◌≡◌, List, Option, Some, None, if◌then◌else◌}
use Rattle.std.specs.Ordering.{is_eq}
use Rattle.rising_lists.specs.Keyed.{at_key}
use Rattle.payroll_records.specs.declared.day.Day.{Day}
use Rattle.payroll_records.specs.declared.record.Key.{Key}
use Rattle.payroll_records.specs.declared.record.Record.{Record}
use Rattle.payroll_records.specs.Orders.{key_cmp}
use Rattle.payroll_records.specs.Tables.{HaveOwnKeys, key_of}
use Rattle.std.specs.Option.{option_or}
use Rattle.book_edits.specs.Books.{AreInOrder, YearRuns, added, changed, loaded, run_at, withdrawn}

-- the run at each key, with a run put at its own
abbrev pub with_run : Record → (Key → Option Record) → Key → Option Record
with_run r runs k = if is_eq (key_cmp (key_of r) k) then Some r else runs k

-- the run at each key, with none at one of them
abbrev pub with_none : Key → (Key → Option Record) → Key → Option Record
with_none at runs k = if is_eq (key_cmp at k) then None else runs k

-- the key of another day of the record's employee
abbrev pub on_day : Record → Day → Key
on_day r d = record { employee = r.employee; day = d }

-- what each edit of the runs leaves at a key
pub record RunsAreMapped : Type 0 where
  pub add : (years : List YearRuns) (r : Record) (k : Key) →
      run_at (added r years) k ≡ with_run r (run_at years) k
  pub withdraw : (years : List YearRuns) (at k : Key) → AreInOrder years →
      run_at (withdrawn at years) k ≡ with_none at (run_at years) k
  pub change : (years : List YearRuns) (from : Day) (r : Record) (k : Key) → AreInOrder years →
      from.year ≡ r.day.year →
      run_at (changed from r years) k ≡ with_run r (with_none (on_day r from) (run_at years)) k
  pub load : (years : List YearRuns) (rs : List Record) (k : Key) → HaveOwnKeys rs →
      run_at (loaded rs years) k ≡ option_or (at_key key_cmp key_of rs k) (run_at years k)
