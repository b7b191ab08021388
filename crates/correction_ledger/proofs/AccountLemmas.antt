-- Accounts that tie are one account; the days up to a month are among those up to a later one.
use Rattle.std.proofs.Common.{◌≡◌, ℕ, true, false, refl, ap}
use Rattle.std.specs.declared.cmp.Ordering.{Ordering}
use Rattle.std.specs.declared.cmp.Ordering.TheVariants.{Less, Equal, Greater}
use Rattle.std.specs.Ordering.{is_gt, is_le, nat_cmp, on, then_cmp}
use Rattle.std.specs.Cmp.{IsTotalOrder, nat_cmp_total, on_total, then_total}
use Rattle.std.specs.Cmp.Lexicographic.{nat_list_cmp_total}
use Rattle.std.proofs.lemmas.Cmp.{upto}
use Rattle.rising_lists.proofs.Laws.{first_tie, second_tie, text_same}
use Rattle.payroll_records.specs.declared.day.Day.{Day}
use Rattle.payroll_records.specs.declared.month.Month.{Month}
use Rattle.payroll_records.specs.Orders.{key_cmp}
use Rattle.payroll_records.specs.NamedValues.{name_cmp}
use Rattle.payroll_records.proofs.Laws.{key_total, key_same}
use Rattle.correction_ledger.specs.Months.{is_up_to, month_cmp}
use Rattle.correction_ledger.specs.Accounts.{Account, account_cmp}

-- accounts are in a total order
pub account_total : IsTotalOrder account_cmp
account_total = then_total (on_total (λ (p : Account). p.key) key_total) (on_total (λ (p : Account). p.name) nat_list_cmp_total)

pub account_same : (p q : Account) → account_cmp p q ≡ Equal → p ≡ q
account_same p q e =
    let key = key_same p.key q.key (first_tie (key_cmp p.key q.key) (name_cmp p.name q.name) e) in
    let name = text_same p.name q.name (second_tie (key_cmp p.key q.key) (name_cmp p.name q.name) e) in
    λ i. record { key = key i; name = name i }

-- ---- months

record YearMonth : Type 0 where
  pub year : ℕ
  pub month : ℕ

abbrev order : YearMonth → YearMonth → Ordering
order = then_cmp (on (λ m. m.year) nat_cmp) (on (λ m. m.month) nat_cmp)

order_total : IsTotalOrder order
order_total = then_total (on_total (λ (m : YearMonth). m.year) nat_cmp_total) (on_total (λ (m : YearMonth). m.month) nat_cmp_total)

of_day : Day → YearMonth
of_day d = record { year = d.year; month = d.month }

of_month : Month → YearMonth
of_month m = record { year = m.year; month = m.month }

not_greater : (o : Ordering) → is_le o ≡ true → is_gt o ≡ false
not_greater Less e = refl
not_greater Equal e = refl
not_greater Greater e = cc e

at_most : (o : Ordering) → is_gt o ≡ false → is_le o ≡ true
at_most Less e = refl
at_most Equal e = refl
at_most Greater e = cc e

-- a day up to a month is up to a later one
pub up_to_later : (m n : Month) (d : Day) → month_cmp m n ≡ Less → is_up_to m d ≡ true → is_up_to n d ≡ true
unfolding of_day of_month
up_to_later m n d l h =
    at_most (order (of_day d) (of_month n)) (upto order_total (of_day d) (of_month m) (of_month n) (not_greater (order (of_day d) (of_month m)) h) (ap is_gt l))
