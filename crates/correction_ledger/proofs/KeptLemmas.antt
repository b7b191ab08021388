-- What the ledger makes of the balances is all that is owed, and what is filed with it is what it keeps.
use Rattle.std.proofs.Common.{◌≡◌, ◌≤◌, List, ◌++◌, map, length, true, false, if◌then◌else◌, Option, Some, None, option_map, refl, sym, ap, ap₂, subst, ◌∙◌}
use Rattle.std.specs.Prelude.{IsTrue, option_and_then}
use Rattle.std.specs.List.{AllByRecursion, filter_map}
use Rattle.std.specs.Option.{option_map_or}
use Rattle.std.specs.declared.cmp.Ordering.{Ordering}
use Rattle.std.specs.declared.cmp.Ordering.TheVariants.{Less, Equal, Greater}
use Rattle.std.proofs.lemmas.Bool.{false≢true}
use Rattle.scaled_decimal.specs.Decimals.{Decimal, value_order}
use Rattle.limits_file.specs.Limits.{IsWithinBound}
use Rattle.rising_lists.specs.Keyed.{at_key, IsRising}
use Rattle.rising_lists.proofs.Laws.{all_in, at_key_filter_map, at_key_map, found_in, none_some, rising_filter_map, rising_map, some_same}
use Rattle.payroll_records.specs.declared.month.Month.{Month}
use Rattle.carry_bindings.specs.Carrying.{zero_amount}
use Rattle.recalc_engine.specs.MonthRows.{KeyedRow}
use Rattle.correction_ledger.specs.declared.balances.Balance.{Balance}
use Rattle.correction_ledger.specs.declared.due.Due.{Due}
use Rattle.correction_ledger.specs.declared.due.Entry.{Entry}
use Rattle.correction_ledger.specs.private.BalanceViews.{AreBothBounded, due_by, owed_of, filed_only, balances_of, reported_only, both_sides, settled_by, settled_of}
use Rattle.correction_ledger.specs.FilingSums.{AreSumsOf, AreUpTo}
use Rattle.correction_ledger.specs.Filings.{IsLater, entry_with}
use Rattle.correction_ledger.specs.Limits.{most_entries}
use Rattle.correction_ledger.specs.Months.{is_up_to}
use Rattle.correction_ledger.specs.Owed.{IsOwed, filed, reported}
use Rattle.correction_ledger.specs.Accounts.{Account, amount_at, due_amount, account_cmp, account_of}
use Rattle.correction_ledger.specs.private.RowViews.{AreReported}
use Rattle.correction_ledger.proofs.BalanceLemmas.{all_balances, at_balances, balance_account, due_at, balances_bounded, balances_rising, met, settled_by_bounded}
use Rattle.correction_ledger.proofs.OwedLemmas.{filed_after, owed_at, owed_between, owed_of_at}
use Rattle.correction_ledger.proofs.AccountLemmas.{account_same, account_total, up_to_later}
use Rattle.correction_ledger.proofs.RisingLemmas.{all_map, all_more}

-- what is owed and settled of these balances
abbrev pub owed_list : List Due → List Due → List Due
owed_list reps sums = filter_map owed_of (balances_of reps sums)

abbrev pub settled_list : List Due → List Due → List Due
settled_list reps sums = map settled_of (balances_of reps sums)

due_keeps_by : (o : Ordering) (b : Balance) (d : Due) → due_by o b ≡ Some d → account_of d ≡ balance_account b
due_keeps_by Less b d e = sym (ap account_of (some_same _ d e))
due_keeps_by Equal b d e = absurd (none_some d e)
due_keeps_by Greater b d e = sym (ap account_of (some_same _ d e))

due_keeps : (b : Balance) (d : Due) → owed_of b ≡ Some d → account_of d ≡ balance_account b
due_keeps b d e = due_keeps_by (value_order b.reported b.filed) b d e

-- ---- the balance on an account

abbrev value_of : Option Due → Decimal
value_of o = option_map_or due_amount o zero_amount

-- what stands on an account is of it
abbrev IsOf : Account → Option Due → Type 0
IsOf p o = (d : Due) → o ≡ Some d → account_of d ≡ p

met_owed : (p : Account) (a b : Option Due) → IsOf p a → IsOf p b →
    option_and_then owed_of (met a b) ≡ owed_between (value_of a) (value_of b) p
met_owed p None None g h = refl
met_owed p None (Some f) g h = subst (λ q. owed_of (filed_only f) ≡ owed_between zero_amount f.amount q) (h f refl) refl
met_owed p (Some r) None g h = subst (λ q. owed_of (reported_only r) ≡ owed_between r.amount zero_amount q) (g r refl) refl
met_owed p (Some r) (Some f) g h = subst (λ q. owed_of (both_sides r f) ≡ owed_between r.amount f.amount q) (g r refl) refl

met_settled : (p : Account) (a b : Option Due) → IsOf p a → IsOf p b →
    value_of (option_map settled_of (met a b)) ≡ settled_by (owed_between (value_of a) (value_of b) p) (value_of b)
met_settled p None None g h = refl
met_settled p None (Some f) g h = ap (λ o. settled_by o f.amount) (met_owed p None (Some f) g h)
met_settled p (Some r) None g h = ap (λ o. settled_by o zero_amount) (met_owed p (Some r) None g h)
met_settled p (Some r) (Some f) g h = ap (λ o. settled_by o f.amount) (met_owed p (Some r) (Some f) g h)

module _ (reps sums : List Due) (g : IsRising account_cmp account_of reps) (h : IsRising account_cmp account_of sums) where
  is_of_account : (ds : List Due) (p : Account) → IsOf p (due_at ds p)
  is_of_account ds p d e = account_same (account_of d) p (found_in account_cmp account_of ds p d e).1

  owed_rising : IsRising account_cmp account_of (owed_list reps sums)
  owed_rising = rising_filter_map account_cmp account_total balance_account account_of owed_of due_keeps (balances_of reps sums) (balances_rising reps sums g h)

  settled_rising : IsRising account_cmp account_of (settled_list reps sums)
  settled_rising = rising_map account_cmp balance_account account_of settled_of (λ b. refl) (balances_of reps sums) (balances_rising reps sums g h)

  owed_list_at : (p : Account) →
      at_key account_cmp account_of (owed_list reps sums) p ≡ owed_between (amount_at reps p) (amount_at sums p) p
  owed_list_at p =
      at_key_filter_map account_cmp account_total balance_account account_of owed_of due_keeps (balances_of reps sums) p (balances_rising reps sums g h)
      ∙ ap (option_and_then owed_of) (at_balances p reps sums g h)
      ∙ met_owed p (due_at reps p) (due_at sums p) (is_of_account reps p) (is_of_account sums p)

  settled_list_at : (p : Account) →
      amount_at (settled_list reps sums) p ≡ settled_by (owed_between (amount_at reps p) (amount_at sums p) p) (amount_at sums p)
  settled_list_at p =
      ap value_of (at_key_map account_cmp balance_account account_of settled_of (λ b. refl) (balances_of reps sums) p ∙ ap (option_map settled_of) (at_balances p reps sums g h))
      ∙ met_settled p (due_at reps p) (due_at sums p) (is_of_account reps p) (is_of_account sums p)

-- ---- a book's rows and a ledger's sums

-- sums up to the last filed month are up to a later one
pub up_to_now : (last : Option Month) (month : Month) (sums : List Due) → AreUpTo last sums → IsLater month last →
    AllByRecursion (λ d. IsTrue (is_up_to month d.key.day)) sums
up_to_now None month sums h l = subst (λ ds. AllByRecursion (λ d. IsTrue (is_up_to month d.key.day)) ds) (sym h) tt
up_to_now (Some last) month sums h l = all_more (λ d. IsTrue (is_up_to last d.key.day)) (λ d. IsTrue (is_up_to month d.key.day)) sums (λ d t. up_to_later last month d.key.day l t) h

none_later : (month : Month) (ds : List Due) (p : Account) →
    AllByRecursion (λ d. IsTrue (is_up_to month d.key.day)) ds → is_up_to month p.key.day ≡ false →
    amount_at ds p ≡ zero_amount
none_later month ds p h t = by (due_at ds p) refl
  where
    by : (o : Option Due) → due_at ds p ≡ o → value_of o ≡ zero_amount
    by None e = refl
    by (Some d) e =
        let found = found_in account_cmp account_of ds p d e in
        let account = account_same (account_of d) p found.1 in
        let up = all_in (λ x. IsTrue (is_up_to month x.key.day)) ds d h found.0 in
        absurd (false≢true (sym t ∙ sym (ap (λ (q : Account). is_up_to month q.key.day) account) ∙ up))

module _ (rows : List KeyedRow) (entries : List Entry) (month : Month) (reps sums : List Due) (last : Option Month) (r : AreReported rows month reps) (k : AreSumsOf entries sums last) (up : AllByRecursion (λ d. IsTrue (is_up_to month d.key.day)) sums) where
  owed_here : (p : Account) → at_key account_cmp account_of (owed_list reps sums) p ≡ owed_at rows entries month p
  owed_here p = elim (is_up_to month p.key.day) as (λ b. is_up_to month p.key.day ≡ b → at_key account_cmp account_of (owed_list reps sums) p ≡ (if b then owed_between (reported rows p) (filed entries p) p else None)) [
    | true ↦ λ t. owed_list_at reps sums r.rising k.rising p
        ∙ ap₂ (λ x y. owed_between x y p) (r.amounts p t) (k.amounts p)
    | false ↦ λ t. owed_list_at reps sums r.rising k.rising p
        ∙ ap₂ (λ x y. owed_between x y p) (none_later month reps p r.up_to t) (none_later month sums p up t)
  ] refl

  -- what is owed of the balances is all that is owed
  pub list_is_owed : IsOwed rows entries month (owed_list reps sums)
  list_is_owed = owed_of_at rows entries month (owed_list reps sums) (record { in_order = owed_rising reps sums r.rising k.rising; at = owed_here })

  -- each balance is bounded
  pub each_bounded : AllByRecursion AreBothBounded (balances_of reps sums)
  each_bounded = balances_bounded reps sums r.bounded k.bounded

  settled_here : (p : Account) →
      amount_at (settled_list reps sums) p ≡ filed (entries ++ map (entry_with month) (owed_list reps sums)) p
  settled_here p =
      settled_list_at reps sums r.rising k.rising p
      ∙ ap₂ (λ o f. settled_by o f) (sym (owed_list_at reps sums r.rising k.rising p)) (k.amounts p)
      ∙ sym (filed_after month p entries (owed_list reps sums) (owed_rising reps sums r.rising k.rising))

  -- what is settled of them is what is filed then
  pub list_is_kept : length (entries ++ map (entry_with month) (owed_list reps sums)) ≤ most_entries →
      AreSumsOf (entries ++ map (entry_with month) (owed_list reps sums)) (settled_list reps sums) (Some month)
  list_is_kept few = record {
    rising = settled_rising reps sums r.rising k.rising;
    amounts = settled_here;
    bounded = all_map AreBothBounded (λ d. IsWithinBound d.amount) settled_of (balances_of reps sums) settled_by_bounded each_bounded;
    up_to = all_map (λ b. IsTrue (is_up_to month b.key.day)) (λ d. IsTrue (is_up_to month d.key.day)) settled_of (balances_of reps sums) (λ b t. t)
        (all_balances (λ b. IsTrue (is_up_to month b.key.day)) (λ d. IsTrue (is_up_to month d.key.day)) (λ d. IsTrue (is_up_to month d.key.day)) (λ d t. t) (λ d t. t) (λ d e t u. t) reps sums r.up_to up);
    few = few;
  }
