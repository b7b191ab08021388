-- What is owed up to a month: where a book reports other values than were filed, the difference. Source:
-- docs/PROFILE.md, "Filings and corrections".
use Rattle.std.specs.Prelude.{◌≡◌, ◌≢◌, ◌↔◌, ℕ, List, Option, IsTrue, Contains, filter, map, option_and_then, unwrap_or, Bool}
use Rattle.std.specs.declared.cmp.Ordering.TheVariants.{Equal}
use Rattle.std.specs.Ordering.{is_eq}
use Rattle.scaled_decimal.specs.Decimals.{Decimal, difference, value_order}
use Rattle.rising_lists.specs.Keyed.{at_key, IsRising}
use Rattle.payroll_records.specs.declared.month.Month.{Month}
use Rattle.payroll_records.specs.Orders.{key_cmp}
use Rattle.carry_bindings.specs.Carrying.{named, total, zero_amount}
use Rattle.book_year.specs.Rows.{done_outputs}
use Rattle.recalc_engine.specs.BookLaws.{row_key}
use Rattle.recalc_engine.specs.MonthRows.{KeyedRow}
use Rattle.correction_ledger.specs.declared.due.Due.{Due}
use Rattle.correction_ledger.specs.declared.due.Entry.{Entry}
use Rattle.correction_ledger.specs.Months.{is_up_to}
use Rattle.correction_ledger.specs.Accounts.{Account, account_cmp, account_of}

-- the output of a name of a run, where the run is ok and has it
abbrev pub output_named : List ℕ → KeyedRow → Option Decimal
output_named name row = option_and_then (named name) (done_outputs row.state)

-- what a book reports on an account: the output of the run, where that is there, is ok and has it, else 0
abbrev pub reported : List KeyedRow → Account → Decimal
reported rows p =
    unwrap_or (option_and_then (output_named p.name) (at_key key_cmp row_key rows p.key)) zero_amount

-- whether an entry is of an account
abbrev pub is_for : Account → Entry → Bool
is_for p e = is_eq (account_cmp (account_of e.due) p)

-- the amount of an entry
abbrev pub entry_amount : Entry → Decimal
entry_amount e = e.due.amount

-- what was filed on an account: the sum of its entries' amounts, 0 where it has none
abbrev pub filed : List Entry → Account → Decimal
filed entries p = total (map entry_amount (filter (is_for p) entries))

-- this is owed: the account is up to the month, its two values differ, and the amount is their difference
pub record IsDue (rows : List KeyedRow) (entries : List Entry) (month : Month)
    (d : Due) : Type 0 where
  pub in_time : IsTrue (is_up_to month d.key.day)
  pub differ : value_order (reported rows (account_of d)) (filed entries (account_of d)) ≢ Equal
  pub amount : d.amount ≡ difference (reported rows (account_of d)) (filed entries (account_of d))

-- the list of all that is owed, in order of key and name
pub record IsOwed (rows : List KeyedRow) (entries : List Entry) (month : Month)
    (dues : List Due) : Type 0 where
  pub in_order : IsRising account_cmp account_of dues
  pub all : (d : Due) → Contains dues d ↔ IsDue rows entries month d
