-- Accounts: what an amount is booked on, an output of a run.
use Rattle.std.specs.Prelude.{ℕ, List}
use Rattle.std.specs.Option.{option_map_or}
use Rattle.std.specs.declared.cmp.Ordering.{Ordering}
use Rattle.std.specs.Ordering.{on, then_cmp}
use Rattle.scaled_decimal.specs.Decimals.{Decimal}
use Rattle.rising_lists.specs.Keyed.{at_key}
use Rattle.payroll_records.specs.declared.record.Key.{Key}
use Rattle.payroll_records.specs.NamedValues.{name_cmp}
use Rattle.payroll_records.specs.Orders.{key_cmp}
use Rattle.carry_bindings.specs.Carrying.{zero_amount}
use Rattle.correction_ledger.specs.declared.due.Due.{Due}

-- the key of a run and the name of an output
pub record Account : Type 0 where
  pub key : Key
  pub name : List ℕ

-- by key, then by name
abbrev pub account_cmp : Account → Account → Ordering
account_cmp = then_cmp (on (λ p. p.key) key_cmp) (on (λ p. p.name) name_cmp)

-- the account of what is owed
abbrev pub account_of : Due → Account
account_of d = record { key = d.key; name = d.name }

-- the amount that is owed
abbrev pub due_amount : Due → Decimal
due_amount d = d.amount

-- the amount on an account, 0 where there is none
abbrev pub amount_at : List Due → Account → Decimal
amount_at dues p = option_map_or due_amount (at_key account_cmp account_of dues p) zero_amount
