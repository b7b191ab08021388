-- A ledger, what filing a month does to it, and why it is refused. Source: docs/PROFILE.md, "Filings and corrections".
use Rattle.std.specs.Prelude.{◌≡◌, ◌≢◌, ◌+◌, ◌<◌, ◌≤◌, ℕ, List, ◌++◌, Option, Some, None, Result, Ok, Err, length, map, IfSome}
use Rattle.std.specs.declared.cmp.Ordering.TheVariants.{Less}
use Rattle.payroll_records.specs.declared.month.Month.{Month}
use Rattle.recalc_engine.specs.MonthRows.{KeyedRow}
use Rattle.correction_ledger.specs.declared.due.Due.{Due}
use Rattle.correction_ledger.specs.declared.due.Entry.{Entry}
use Rattle.correction_ledger.specs.declared.ledger.FileRefusal.{FileRefusal}
use Rattle.correction_ledger.specs.declared.ledger.FileRefusal.TheVariants as file
use Rattle.correction_ledger.specs.declared.ledger.OwedRefusal.{OwedRefusal}
use Rattle.correction_ledger.specs.declared.ledger.OwedRefusal.TheVariants as owed
use Rattle.correction_ledger.specs.Limits.{most_entries}
use Rattle.correction_ledger.specs.Months.{month_cmp}
use Rattle.correction_ledger.specs.Open.{first_open}
use Rattle.correction_ledger.specs.Owed.{IsOwed}

-- the entries in the order in which they were filed, and the last filed month
pub record Filings : Type 0 where
  pub entries : List Entry
  pub last : Option Month

-- an amount as it is filed with a month
abbrev pub entry_with : Month → Due → Entry
entry_with month d = record { month = month; due = d }

-- the month is after the last filed one, if there is one
abbrev pub IsLater : Month → Option Month → Type 0
IsLater month last = IfSome last (λ m. month_cmp m month ≡ Less)

-- nothing stands against filing the month but the number of entries
pub record IsClosed (rows : List KeyedRow) (month : Month) (last : Option Month) : Type 0 where
  pub later : IsLater month last
  pub closed : first_open month rows ≡ None

-- the month is filed: what is owed up to it, in order, behind the entries, which stay
pub record IsFiling (rows : List KeyedRow) (month : Month) (old new : Filings)
    (count : ℕ) : Type 0 where
  pub allowed : IsClosed rows month old.last
  pub dues : List Due
  pub owed : IsOwed rows old.entries month dues
  pub entries : new.entries ≡ old.entries ++ map (entry_with month) dues
  pub last : new.last ≡ Some month
  pub counted : count ≡ length dues
  pub few : length new.entries ≤ most_entries

-- there would be too many entries
pub record HasTooMany (rows : List KeyedRow) (month : Month) (old : Filings) : Type 0 where
  pub allowed : IsClosed rows month old.last
  pub dues : List Due
  pub owed : IsOwed rows old.entries month dues
  pub many : most_entries < length old.entries + length dues

-- why a month isn't filed, in this order; memory may run out only where nothing but the number of entries stands
-- against it
abbrev pub IsFileRefused : List KeyedRow → Month → Filings → FileRefusal → Type 0
IsFileRefused rows month old (file.Early last) =
    (old.last ≡ Some last) × (month_cmp last month ≢ Less)
IsFileRefused rows month old (file.Open key) =
    IsLater month old.last × (first_open month rows ≡ Some key)
IsFileRefused rows month old file.Entries = HasTooMany rows month old
IsFileRefused rows month old (file.Memory error) = IsClosed rows month old.last

-- what filing a month answers: the filings with it and the number of new entries, or why it isn't filed; it never
-- answers that memory ran out
abbrev pub FilingSays : List KeyedRow → Month → Filings → Result (Filings × ℕ) FileRefusal → Type 0
FilingSays rows month old (Ok made) = IsFiling rows month old made.0 made.1
FilingSays rows month old (Err (file.Memory error)) = ⊥
FilingSays rows month old (Err why) = IsFileRefused rows month old why

-- these are owed up to the last filed month, and all runs up to it are ok
pub record IsOwedNow (rows : List KeyedRow) (now : Filings) (dues : List Due) : Type 0 where
  pub month : Month
  pub last : now.last ≡ Some month
  pub closed : first_open month rows ≡ None
  pub owed : IsOwed rows now.entries month dues

-- why it isn't known what is owed; memory may run out only where a month was filed and all runs up to the last one are
-- ok
abbrev pub IsOwedRefused : List KeyedRow → Filings → OwedRefusal → Type 0
IsOwedRefused rows now owed.NothingFiled = now.last ≡ None
IsOwedRefused rows now (owed.Open key) =
    (month : Month) × (now.last ≡ Some month) × (first_open month rows ≡ Some key)
IsOwedRefused rows now (owed.Memory error) =
    (month : Month) × (now.last ≡ Some month) × (first_open month rows ≡ None)

-- the answer to the question what is owed: the list, or why it isn't known; it never answers that memory ran out
abbrev pub OwedSays : List KeyedRow → Filings → Result (List Due) OwedRefusal → Type 0
OwedSays rows now (Ok dues) = IsOwedNow rows now dues
OwedSays rows now (Err (owed.Memory error)) = ⊥
OwedSays rows now (Err why) = IsOwedRefused rows now why
