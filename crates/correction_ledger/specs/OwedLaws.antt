-- The laws of what is owed and of what is filed.
use Rattle.std.specs.Prelude.{◌≡◌, ◌+◌, ◌≤◌, ℕ, List, [], ◌++◌, IsTrue, Result, Ok, length, map}
use Rattle.std.specs.declared.cmp.Ordering.TheVariants.{Equal}
use Rattle.scaled_decimal.specs.Decimals.{sum, value_order}
use Rattle.payroll_records.specs.declared.month.Month.{Month}
use Rattle.recalc_engine.specs.MonthRows.{KeyedRow}
use Rattle.correction_ledger.specs.declared.due.Due.{Due}
use Rattle.correction_ledger.specs.declared.due.Entry.{Entry}
use Rattle.correction_ledger.specs.declared.ledger.FileRefusal.{FileRefusal}
use Rattle.correction_ledger.specs.declared.ledger.OwedRefusal.{OwedRefusal}
use Rattle.correction_ledger.specs.Filings.{Filings, FilingSays, OwedSays, entry_with}
use Rattle.correction_ledger.specs.Limits.{most_entries}
use Rattle.correction_ledger.specs.Months.{is_up_to}
use Rattle.correction_ledger.specs.Owed.{IsOwed, filed, reported}
use Rattle.correction_ledger.specs.Accounts.{Account, amount_at}
use Rattle.correction_ledger.specs.Parts.{entries_where, filings_where, is_before, is_from, rows_where}

-- there is exactly one list of all that is owed
pub record HasOneOwed (rows : List KeyedRow) (entries : List Entry) (month : Month) : Type 0 where
  pub dues : List Due
  pub owed : IsOwed rows entries month dues
  pub alone : (other : List Due) → IsOwed rows entries month other → other ≡ dues

-- every book's rows, entries and month have exactly one list of all that is owed
abbrev pub OwedIsOne : Type 0
OwedIsOne =
    (rows : List KeyedRow) (entries : List Entry) (month : Month) → HasOneOwed rows entries month

-- what was filed and what is owed together are what the book reports, by value
abbrev pub OwedSettles : Type 0
OwedSettles =
    (rows : List KeyedRow) (entries : List Entry) (month : Month) (dues : List Due) (p : Account)
    → IsOwed rows entries month dues → IsTrue (is_up_to month p.key.day)
    → value_order (sum (filed entries p) (amount_at dues p)) (reported rows p) ≡ Equal

-- once what is owed is filed, nothing is owed
abbrev pub FilingSettles : Type 0
FilingSettles =
    (rows : List KeyedRow) (entries : List Entry) (month : Month) (dues : List Due)
    → IsOwed rows entries month dues
    → IsOwed rows (entries ++ map (entry_with month) dues) month []

-- ---- parts

-- what is owed for the employees before a cut, and then what is owed for the others, is what is owed for all
abbrev pub DuesAreJoined : Type 0
DuesAreJoined =
    (rows : List KeyedRow) (entries : List Entry) (month : Month) (cut : List ℕ) (first rest : List Due)
    → IsOwed (rows_where (is_before cut) rows) (entries_where (is_before cut) entries) month first
    → IsOwed (rows_where (is_from cut) rows) (entries_where (is_from cut) entries) month rest
    → IsOwed rows entries month (first ++ rest)

-- filings split at a cut into two, which together have as many new entries
pub record SplitsAt (cut : List ℕ) (made first rest : Filings × ℕ) : Type 0 where
  pub before : filings_where (is_before cut) made.0 ≡ first.0
  pub from : filings_where (is_from cut) made.0 ≡ rest.0
  pub count : made.1 ≡ first.1 + rest.1

-- a month that is filed for the employees before a cut, and for the others, is filed for all, unless there would be too
-- many entries: the new entries are those of the first part and then those of the rest, and the filings split into those
-- of the parts
abbrev pub FilingsAreJoined : Type 0
FilingsAreJoined =
    (rows : List KeyedRow) (month : Month) (old : Filings) (cut : List ℕ) (first rest : Filings × ℕ)
    (a : FilingSays (rows_where (is_before cut) rows) month (filings_where (is_before cut) old) (Ok first))
    (b : FilingSays (rows_where (is_from cut) rows) month (filings_where (is_from cut) old) (Ok rest))
    → length old.entries + (first.1 + rest.1) ≤ most_entries
    → (made : Filings × ℕ) × FilingSays rows month old (Ok made)
    × (made.0.entries ≡ old.entries ++ map (entry_with month) (a.dues ++ b.dues))
    × SplitsAt cut made first rest

-- ---- answers

-- there is exactly one answer
pub record HasOneAnswer (A : Type 0) (Says : A → Type 0) : Type 0 where
  pub answer : A
  pub says : Says answer
  pub alone : (other : A) → Says other → other ≡ answer

-- filing a month has one answer, whatever the book's rows and the filings are
abbrev pub FilingsHaveOneAnswer : Type 0
FilingsHaveOneAnswer =
    (rows : List KeyedRow) (month : Month) (old : Filings)
    → HasOneAnswer (Result (Filings × ℕ) FileRefusal) (FilingSays rows month old)

-- the question what is owed has one answer, whatever the book's rows and the filings are
abbrev pub OwedHasOneAnswer : Type 0
OwedHasOneAnswer =
    (rows : List KeyedRow) (now : Filings)
    → HasOneAnswer (Result (List Due) OwedRefusal) (OwedSays rows now)
