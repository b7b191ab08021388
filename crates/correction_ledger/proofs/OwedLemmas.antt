-- A list is all that is owed exactly where it rises and has on each account what is owed there; what filing it does.
use Rattle.std.proofs.Common.{◌≡◌, ◌≢◌, List, [], ◌∷◌, ◌++◌, map, true, false, if◌then◌else◌, Option, Some, None, refl, sym, ap, subst, ◌∙◌}
use Rattle.std.specs.Prelude.{IsTrue, cond, filter, fold}
use Rattle.std.specs.Option.{option_map_or}
use Rattle.std.specs.declared.cmp.Ordering.{Ordering}
use Rattle.std.specs.declared.cmp.Ordering.TheVariants.{Less, Equal, Greater}
use Rattle.std.specs.Ordering.{is_eq}
use Rattle.std.proofs.lemmas.List.{map-append}
use Rattle.std.proofs.lemmas.List.Elements.{filter-append}
use Rattle.std.proofs.lemmas.List.Sums.{fold-append}
use Rattle.scaled_decimal.specs.Decimals.{Decimal, difference, sum, value_order}
use Rattle.rising_lists.specs.Keyed.{at_key, AreAbove, IsRising}
use Rattle.rising_lists.proofs.Laws.{at_key_none, contains_of_in, found_in, in_found, in_of_contains, none_some, some_same}
use Rattle.payroll_records.specs.declared.month.Month.{Month}
use Rattle.carry_bindings.specs.Carrying.{total, zero_amount}
use Rattle.recalc_engine.specs.MonthRows.{KeyedRow}
use Rattle.correction_ledger.specs.declared.balances.Balance.{Balance}
use Rattle.correction_ledger.specs.declared.due.Due.{Due}
use Rattle.correction_ledger.specs.declared.due.Entry.{Entry}
use Rattle.correction_ledger.specs.private.BalanceViews.{due_by, owed_of, settled_by}
use Rattle.correction_ledger.specs.Filings.{entry_with}
use Rattle.correction_ledger.specs.Months.{is_up_to}
use Rattle.correction_ledger.specs.Owed.{IsDue, IsOwed, entry_amount, filed, is_for, reported}
use Rattle.correction_ledger.specs.Accounts.{Account, amount_at, due_amount, account_cmp, account_of}
use Rattle.correction_ledger.proofs.DifferenceLemmas.{order_back, settled_order, sum_zero}
use Rattle.correction_ledger.proofs.AccountLemmas.{account_same, account_total}
use Rattle.correction_ledger.proofs.RisingLemmas.{same_elements}

-- the balance of an account
abbrev pub balance_of : Decimal → Decimal → Account → Balance
balance_of r f p = record { key = p.key; name = p.name; reported = r; filed = f }

-- what is owed on an account of these two values
abbrev pub owed_between : Decimal → Decimal → Account → Option Due
owed_between r f p = owed_of (balance_of r f p)

-- what is owed on an account
abbrev pub owed_at : List KeyedRow → List Entry → Month → Account → Option Due
owed_at rows entries month p = if is_up_to month p.key.day then owed_between (reported rows p) (filed entries p) p else None

-- a list that rises and has this on each account
pub record HasAtEach (rows : List KeyedRow) (entries : List Entry) (month : Month) (dues : List Due) : Type 0 where
  pub in_order : IsRising account_cmp account_of dues
  pub at : (p : Account) → at_key account_cmp account_of dues p ≡ owed_at rows entries month p

-- the amount that is owed between two values, on an account
abbrev pub due_with : Decimal → Decimal → Account → Due
due_with r f p = record { key = p.key; name = p.name; amount = difference r f }

apart_less : (o : Ordering) → o ≡ Less → o ≡ Equal → ⊥
apart_less o l e = let p = sym l ∙ e in cc

apart_greater : (o : Ordering) → o ≡ Greater → o ≡ Equal → ⊥
apart_greater o g e = let p = sym g ∙ e in cc

-- ---- one due

module _ (rows : List KeyedRow) (entries : List Entry) (month : Month) where
  owed_by : (d : Due) (r f : Decimal) (o : Ordering) → (o ≡ Equal → ⊥) → d.amount ≡ difference r f →
      due_by o (balance_of r f (account_of d)) ≡ Some d
  owed_by d r f Less n e = ap (λ a. Some (record { key = d.key; name = d.name; amount = a })) (sym e)
  owed_by d r f Equal n e = absurd (n refl)
  owed_by d r f Greater n e = ap (λ a. Some (record { key = d.key; name = d.name; amount = a })) (sym e)

  due_here : (d : Due) → IsDue rows entries month d → owed_at rows entries month (account_of d) ≡ Some d
  due_here d h =
      ap (λ b. if b then owed_between (reported rows (account_of d)) (filed entries (account_of d)) (account_of d) else None) h.in_time
      ∙ owed_by d (reported rows (account_of d)) (filed entries (account_of d)) (value_order (reported rows (account_of d)) (filed entries (account_of d))) h.differ h.amount

  differs_by : (d : Due) (r f : Decimal) (o : Ordering) → value_order r f ≡ o →
      due_by o (balance_of r f (account_of d)) ≡ Some d → (value_order r f ≢ Equal) × (d.amount ≡ difference r f)
  differs_by d r f Less o e = (apart_less (value_order r f) o, sym (ap due_amount (some_same (due_with r f (account_of d)) d e)))
  differs_by d r f Equal o e = absurd (none_some d e)
  differs_by d r f Greater o e = (apart_greater (value_order r f) o, sym (ap due_amount (some_same (due_with r f (account_of d)) d e)))

  due_is : (d : Due) → owed_at rows entries month (account_of d) ≡ Some d → IsDue rows entries month d
  due_is d h =
      (elim (is_up_to month d.key.day) as (λ b. is_up_to month d.key.day ≡ b → (if b then owed_between (reported rows (account_of d)) (filed entries (account_of d)) (account_of d) else None) ≡ Some d → IsDue rows entries month d) [
        | true ↦ λ t e. (let parts = differs_by d (reported rows (account_of d)) (filed entries (account_of d)) (value_order (reported rows (account_of d)) (filed entries (account_of d))) refl e in
            record { in_time = t; differ = parts.0; amount = parts.1 })
        | false ↦ λ t e. absurd (none_some d e)
      ]) refl h

  account_by : (d : Due) (p : Account) (r f : Decimal) (o : Ordering) → due_by o (balance_of r f p) ≡ Some d →
      account_of d ≡ p
  account_by d p r f Less e = sym (ap account_of (some_same (due_with r f p) d e))
  account_by d p r f Equal e = absurd (none_some d e)
  account_by d p r f Greater e = sym (ap account_of (some_same (due_with r f p) d e))

  -- what is owed on an account is of that account
  pub owed_account : (d : Due) (p : Account) → owed_at rows entries month p ≡ Some d → account_of d ≡ p
  owed_account d p h = (elim (is_up_to month p.key.day) as (λ b. (if b then owed_between (reported rows p) (filed entries p) p else None) ≡ Some d → account_of d ≡ p) [
    | true ↦ λ e. account_by d p (reported rows p) (filed entries p) (value_order (reported rows p) (filed entries p)) e
    | false ↦ λ e. absurd (none_some d e)
  ]) h

  -- ---- the list

  pub owed_of_at : (dues : List Due) → HasAtEach rows entries month dues → IsOwed rows entries month dues
  owed_of_at dues h = record {
    in_order = h.in_order;
    all = λ d. (
      λ c. due_is d (sym (h.at (account_of d)) ∙ in_found account_cmp account_total account_of dues d h.in_order (in_of_contains dues d c)),
      λ due. contains_of_in dues d (found_in account_cmp account_of dues (account_of d) d (h.at (account_of d) ∙ due_here d due)).0,
    );
  }

  module _ (dues : List Due) (h : IsOwed rows entries month dues) where
    stands : (d : Due) (p : Account) → at_key account_cmp account_of dues p ≡ Some d →
        owed_at rows entries month p ≡ Some d
    stands d p e =
        let found = found_in account_cmp account_of dues p d e in
        let here = due_here d ((h.all d).0 (contains_of_in dues d found.0)) in
        subst (λ q. owed_at rows entries month q ≡ Some d) (account_same (account_of d) p found.1) here

    listed : (d : Due) (p : Account) → owed_at rows entries month p ≡ Some d →
        at_key account_cmp account_of dues p ≡ Some d
    listed d p e =
        let account = owed_account d p e in
        let due = due_is d (ap (λ q. owed_at rows entries month q) account ∙ e) in
        let found = in_found account_cmp account_total account_of dues d h.in_order (in_of_contains dues d ((h.all d).1 due)) in
        ap (λ q. at_key account_cmp account_of dues q) (sym account) ∙ found

    same_at : (p : Account) (a b : Option Due) → at_key account_cmp account_of dues p ≡ a →
        owed_at rows entries month p ≡ b → a ≡ b
    same_at p None None e f = refl
    same_at p None (Some d) e f = sym e ∙ listed d p f
    same_at p (Some d) b e f = sym (stands d p e) ∙ f

    pub at_of_owed : HasAtEach rows entries month dues
    at_of_owed = record { in_order = h.in_order; at = λ p. same_at p (at_key account_cmp account_of dues p) (owed_at rows entries month p) refl refl }

  -- two lists of all that is owed are one
  pub owed_once : (a b : List Due) → IsOwed rows entries month a → IsOwed rows entries month b → a ≡ b
  owed_once a b h k = same_elements account_cmp account_total account_of a b h.in_order k.in_order
      (λ d m. in_of_contains b d ((k.all d).1 ((h.all d).0 (contains_of_in a d m))))
      (λ d m. in_of_contains a d ((h.all d).1 ((k.all d).0 (contains_of_in b d m))))

-- ---- what is filed after a filing

abbrev pub settled_with : Option Due → Decimal → Decimal
settled_with o f = settled_by o f

module _ (month : Month) (p : Account) where
  none_of : (dues : List Due) → at_key account_cmp account_of dues p ≡ None →
      filter (is_for p) (map (entry_with month) dues) ≡ []
  none_of [] e = refl
  none_of (d ∷ ds) e = (elim (is_eq (account_cmp (account_of d) p)) as (λ b. (if b then Some d else at_key account_cmp account_of ds p) ≡ None → cond b (entry_with month d ∷ filter (is_for p) (map (entry_with month) ds)) (filter (is_for p) (map (entry_with month) ds)) ≡ []) [
    | true ↦ λ f. absurd (none_some d (sym f))
    | false ↦ λ f. none_of ds f
  ]) e

  -- the entries of an account among those that are filed
  abbrev entries_at : Option Due → List Entry
  entries_at None = []
  entries_at (Some d) = entry_with month d ∷ []

  filtered : (dues : List Due) → IsRising account_cmp account_of dues →
      filter (is_for p) (map (entry_with month) dues) ≡ entries_at (at_key account_cmp account_of dues p)
  filtered [] h = refl
  filtered (d ∷ ds) h = elim (account_cmp (account_of d) p) as (λ o. account_cmp (account_of d) p ≡ o → cond (is_eq o) (entry_with month d ∷ filter (is_for p) (map (entry_with month) ds)) (filter (is_for p) (map (entry_with month) ds)) ≡ entries_at (if is_eq o then Some d else at_key account_cmp account_of ds p)) [
    | Less ↦ λ t. filtered ds h.1
    | Equal ↦ λ t. (let q = account_same (account_of d) p t in
        ap (λ l. entry_with month d ∷ l) (none_of ds (at_key_none account_cmp account_total account_of p ds (subst (λ q. AreAbove account_cmp account_of q ds) q h.0))))
    | Greater ↦ λ t. filtered ds h.1
  ] refl

  summed : (f : Decimal) (o : Option Due) → fold sum f (map entry_amount (entries_at o)) ≡ settled_by o f
  summed f None = refl
  summed f (Some d) = refl

  pub filed_after : (entries : List Entry) (dues : List Due) → IsRising account_cmp account_of dues →
      filed (entries ++ map (entry_with month) dues) p ≡ settled_by (at_key account_cmp account_of dues p) (filed entries p)
  filed_after entries dues h =
      ap (λ l. total (map entry_amount l)) (filter-append (is_for p) entries (map (entry_with month) dues) ∙ ap (λ l. filter (is_for p) entries ++ l) (filtered dues h))
      ∙ ap (λ l. total l) (map-append entry_amount (filter (is_for p) entries) (entries_at (at_key account_cmp account_of dues p)))
      ∙ fold-append sum zero_amount (map entry_amount (filter (is_for p) entries)) (map entry_amount (entries_at (at_key account_cmp account_of dues p)))
      ∙ summed (filed entries p) (at_key account_cmp account_of dues p)

-- ---- the laws

settled_value : (r f : Decimal) (p : Account) → value_order r (settled_by (owed_between r f p) f) ≡ Equal
settled_value r f p = by (value_order r f) refl
  where
    by : (o : Ordering) → value_order r f ≡ o → value_order r (settled_by (due_by o (balance_of r f p)) f) ≡ Equal
    by Less e = order_back (sum f (difference r f)) r (settled_order r f)
    by Equal e = e
    by Greater e = order_back (sum f (difference r f)) r (settled_order r f)

amount_settles : (r f : Decimal) (p : Account) →
    value_order (sum f (option_map_or due_amount (owed_between r f p) zero_amount)) r ≡ Equal
amount_settles r f p = by (value_order r f) refl
  where
    by : (o : Ordering) → value_order r f ≡ o →
        value_order (sum f (option_map_or due_amount (due_by o (balance_of r f p)) zero_amount)) r ≡ Equal
    by Less e = settled_order r f
    by Equal e = ap (λ d. value_order d r) (sum_zero f) ∙ order_back r f e
    by Greater e = settled_order r f

module _ (rows : List KeyedRow) (entries : List Entry) (month : Month) (dues : List Due) (h : IsOwed rows entries month dues) where
  pub owed_settles : (p : Account) → IsTrue (is_up_to month p.key.day) →
      value_order (sum (filed entries p) (amount_at dues p)) (reported rows p) ≡ Equal
  owed_settles p t =
      let at = (at_of_owed rows entries month dues h).at p ∙ ap (λ b. if b then owed_between (reported rows p) (filed entries p) p else None) t in
      ap (λ o. value_order (sum (filed entries p) (option_map_or due_amount o zero_amount)) (reported rows p)) at
      ∙ amount_settles (reported rows p) (filed entries p) p

  nothing_left : (p : Account) → owed_at rows (entries ++ map (entry_with month) dues) month p ≡ None
  nothing_left p = elim (is_up_to month p.key.day) as (λ b. is_up_to month p.key.day ≡ b → (if b then owed_between (reported rows p) (filed (entries ++ map (entry_with month) dues) p) p else None) ≡ None) [
    | true ↦ λ t. (let at = (at_of_owed rows entries month dues h).at p ∙ ap (λ b. if b then owed_between (reported rows p) (filed entries p) p else None) t in
        let now = filed_after month p entries dues h.in_order ∙ ap (λ o. settled_by o (filed entries p)) at in
        let level = ap (λ f. value_order (reported rows p) f) now ∙ settled_value (reported rows p) (filed entries p) p in
        ap (λ o. due_by o (balance_of (reported rows p) (filed (entries ++ map (entry_with month) dues) p) p)) level)
    | false ↦ λ t. refl
  ] refl

  pub filing_settles : IsOwed rows (entries ++ map (entry_with month) dues) month []
  filing_settles = owed_of_at rows (entries ++ map (entry_with month) dues) month [] (record { in_order = tt; at = λ p. sym (nothing_left p) })
