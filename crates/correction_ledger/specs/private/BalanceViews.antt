-- What a book reports beside what was filed, output by output.
use Rattle.std.specs.Prelude.{List, [], ◌∷◌, Option, Some, None, map}
use Rattle.std.specs.declared.cmp.Ordering.{Ordering}
use Rattle.std.specs.declared.cmp.Ordering.TheVariants.{Less, Equal, Greater}
use Rattle.scaled_decimal.specs.Decimals.{Decimal, difference, sum, value_order}
use Rattle.limits_file.specs.Limits.{IsWithinBound}
use Rattle.carry_bindings.specs.Carrying.{zero_amount}
use Rattle.correction_ledger.specs.declared.balances.Balance.{Balance}
use Rattle.correction_ledger.specs.declared.due.Due.{Due}
use Rattle.correction_ledger.specs.Accounts.{account_cmp, account_of}

-- nothing was filed
abbrev pub reported_only : Due → Balance
reported_only r = record { key = r.key; name = r.name; reported = r.amount; filed = zero_amount }

-- nothing is reported
abbrev pub filed_only : Due → Balance
filed_only f = record { key = f.key; name = f.name; reported = zero_amount; filed = f.amount }

-- both are there
abbrev pub both_sides : Due → Due → Balance
both_sides r f = record { key = r.key; name = r.name; reported = r.amount; filed = f.amount }

-- one step of the merge, with what the two lists give after it
abbrev pub balances_by : Ordering → Due → Due → List Balance → List Balance → List Balance
    → List Balance
balances_by Less r f after_reported after_both after_filed = reported_only r ∷ after_reported
balances_by Equal r f after_reported after_both after_filed = both_sides r f ∷ after_both
balances_by Greater r f after_reported after_both after_filed = filed_only f ∷ after_filed

-- one amount more before the rest of what is reported
abbrev pub balances_with : Due → (List Due → List Balance) → List Due → List Balance
balances_with r more [] = reported_only r ∷ more []
balances_with r more (f ∷ fs) =
    balances_by (account_cmp (account_of r) (account_of f)) r f (more (f ∷ fs)) (more fs) (balances_with r more fs)

-- the balances of two lists in order
abbrev pub balances_of : List Due → List Due → List Balance
balances_of [] fs = map filed_only fs
balances_of (r ∷ rs) fs = balances_with r (balances_of rs) fs

-- both values are within the bound of outputs
pub record AreBothBounded (b : Balance) : Type 0 where
  pub reported : IsWithinBound b.reported
  pub filed : IsWithinBound b.filed

-- what is owed, by the order of the two values
abbrev pub due_by : Ordering → Balance → Option Due
due_by Equal b = None
due_by other b =
    Some (record { key = b.key; name = b.name; amount = difference b.reported b.filed })

-- what is owed, where the values differ
abbrev pub owed_of : Balance → Option Due
owed_of b = due_by (value_order b.reported b.filed) b

-- what was filed with what is owed
abbrev pub settled_by : Option Due → Decimal → Decimal
settled_by None filed = filed
settled_by (Some d) filed = sum filed d.amount

-- what is filed once that is filed too
abbrev pub settled_of : Balance → Due
settled_of b = record { key = b.key; name = b.name; amount = settled_by (owed_of b) b.filed }
