-- What a ledger keeps beside its entries.
use Rattle.std.specs.Prelude.{◌≡◌, ◌≤◌, List, [], Option, Some, None, IsTrue, length}
use Rattle.std.specs.List.{AllByRecursion}
use Rattle.limits_file.specs.Limits.{IsWithinBound}
use Rattle.rising_lists.specs.Keyed.{IsRising}
use Rattle.payroll_records.specs.declared.month.Month.{Month}
use Rattle.correction_ledger.specs.declared.due.Due.{Due}
use Rattle.correction_ledger.specs.declared.due.Entry.{Entry}
use Rattle.correction_ledger.specs.Limits.{most_entries}
use Rattle.correction_ledger.specs.Months.{is_up_to}
use Rattle.correction_ledger.specs.Owed.{filed}
use Rattle.correction_ledger.specs.Accounts.{Account, amount_at, account_cmp, account_of}

-- the sums are of accounts up to the last filed month
abbrev pub AreUpTo : Option Month → List Due → Type 0
AreUpTo None sums = sums ≡ []
AreUpTo (Some last) sums = AllByRecursion (λ d. IsTrue (is_up_to last d.key.day)) sums

-- the sums of the entries on each account, in order, each within the bound of outputs
pub record AreSumsOf (entries : List Entry) (sums : List Due) (last : Option Month) : Type 0 where
  pub rising : IsRising account_cmp account_of sums
  pub amounts : (p : Account) → amount_at sums p ≡ filed entries p
  pub bounded : AllByRecursion (λ d. IsWithinBound d.amount) sums
  pub up_to : AreUpTo last sums
  pub few : length entries ≤ most_entries
