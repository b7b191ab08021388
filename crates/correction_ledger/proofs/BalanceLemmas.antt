-- The balances of two lists: they rise, and on each account stands what the two lists have there.
use Rattle.std.proofs.Common.{◌≡◌, List, [], ◌∷◌, map, true, false, if◌then◌else◌, Option, Some, None, option_map, refl, sym, ap, subst, ◌∙◌}
use Rattle.std.specs.List.{AllByRecursion}
use Rattle.std.specs.declared.cmp.Ordering.{Ordering}
use Rattle.std.specs.declared.cmp.Ordering.TheVariants.{Less, Equal, Greater}
use Rattle.std.specs.Ordering.{is_eq, ordering_reverse}
use Rattle.scaled_decimal.specs.Decimals.{difference, value_order}
use Rattle.limits_file.specs.Limits.{IsWithinBound}
use Rattle.rising_lists.specs.Keyed.{at_key, AreAbove, IsRising}
use Rattle.rising_lists.proofs.Laws.{above_all_of, above_more, above_same, all_above, at_key_above, at_key_map, rising_map}
use Rattle.correction_ledger.specs.declared.balances.Balance.{Balance}
use Rattle.correction_ledger.specs.declared.due.Due.{Due}
use Rattle.correction_ledger.specs.private.BalanceViews.{AreBothBounded, both_sides, due_by, owed_of, filed_only, balances_of, balances_by, balances_with, reported_only, settled_by, settled_of}
use Rattle.correction_ledger.specs.Accounts.{Account, account_cmp, account_of}
use Rattle.correction_ledger.proofs.DifferenceLemmas.{settled_bounded, zero_bounded}
use Rattle.correction_ledger.proofs.AccountLemmas.{account_total}

abbrev pub balance_account : Balance → Account
balance_account b = record { key = b.key; name = b.name }

-- ---- what holds of each balance

module _ (P : Balance → Type 0) (Q R : Due → Type 0) (left : (r : Due) → Q r → P (reported_only r)) (right : (f : Due) → R f → P (filed_only f)) (pair : (r f : Due) → Q r → R f → P (both_sides r f)) where
  all_filed : (fs : List Due) → AllByRecursion R fs → AllByRecursion P (map filed_only fs)
  all_filed [] h = tt
  all_filed (f ∷ fs) h = (right f h.0, all_filed fs h.1)

  all_by : (o : Ordering) (r f : Due) (a b c : List Balance) → Q r → R f → AllByRecursion P a → AllByRecursion P b →
      AllByRecursion P c → AllByRecursion P (balances_by o r f a b c)
  all_by Less r f a b c q s x y z = (left r q, x)
  all_by Equal r f a b c q s x y z = (pair r f q s, y)
  all_by Greater r f a b c q s x y z = (right f s, z)

  all_with : (r : Due) (more : List Due → List Balance) (fs : List Due) → Q r →
      ((gs : List Due) → AllByRecursion R gs → AllByRecursion P (more gs)) → AllByRecursion R fs →
      AllByRecursion P (balances_with r more fs)
  all_with r more [] q go h = (left r q, go [] tt)
  all_with r more (f ∷ fs) q go h = all_by (account_cmp (account_of r) (account_of f)) r f (more (f ∷ fs)) (more fs) (balances_with r more fs) q h.0 (go (f ∷ fs) h) (go fs h.1) (all_with r more fs q go h.1)

  pub all_balances : (rs fs : List Due) → AllByRecursion Q rs → AllByRecursion R fs →
      AllByRecursion P (balances_of rs fs)
  all_balances [] fs g h = all_filed fs h
  all_balances (r ∷ rs) fs g h = all_with r (balances_of rs) fs g.0 (λ gs k. all_balances rs gs g.1 k) h

-- bounded amounts give bounded balances
pub balances_bounded : (rs fs : List Due) → AllByRecursion (λ d. IsWithinBound d.amount) rs →
    AllByRecursion (λ d. IsWithinBound d.amount) fs → AllByRecursion AreBothBounded (balances_of rs fs)
balances_bounded rs fs g h = all_balances AreBothBounded (λ d. IsWithinBound d.amount) (λ d. IsWithinBound d.amount)
    (λ r q. record { reported = q; filed = zero_bounded })
    (λ f q. record { reported = zero_bounded; filed = q })
    (λ r f q s. record { reported = q; filed = s })
    rs fs g h

above_balances : (p : Account) (rs fs : List Due) → AreAbove account_cmp account_of p rs →
    AreAbove account_cmp account_of p fs → AreAbove account_cmp balance_account p (balances_of rs fs)
above_balances p rs fs g h = above_all_of account_cmp balance_account p (balances_of rs fs)
    (all_balances (λ b. account_cmp p (balance_account b) ≡ Less) (λ d. account_cmp p (account_of d) ≡ Less) (λ d. account_cmp p (account_of d) ≡ Less)
    (λ r q. q) (λ f q. q) (λ r f q s. q) rs fs (all_above account_cmp account_of p rs g) (all_above account_cmp account_of p fs h))

-- ---- the balances rise

to_less : (p q : Account) → account_cmp p q ≡ Greater → account_cmp q p ≡ Less
to_less p q e = account_total.antisymm q p ∙ ap ordering_reverse e

abbrev pub Rises : List Due → Type 0
Rises ds = IsRising account_cmp account_of ds

rising_filed : (fs : List Due) → Rises fs → IsRising account_cmp balance_account (map filed_only fs)
rising_filed fs h = rising_map account_cmp account_of balance_account filed_only (λ f. refl) fs h

rising_with : (r : Due) (rs fs : List Due) → Rises (r ∷ rs) → Rises fs →
    ((gs : List Due) → Rises gs → IsRising account_cmp balance_account (balances_of rs gs)) →
    IsRising account_cmp balance_account (balances_with r (balances_of rs) fs)
rising_with r rs [] g h go = (above_balances (account_of r) rs [] g.0 tt, go [] tt)
rising_with r rs (f ∷ fs) g h go = elim (account_cmp (account_of r) (account_of f)) as (λ o. account_cmp (account_of r) (account_of f) ≡ o → IsRising account_cmp balance_account (balances_by o r f (balances_of rs (f ∷ fs)) (balances_of rs fs) (balances_with r (balances_of rs) fs))) [
  | Less ↦ λ e. (above_balances (account_of r) rs (f ∷ fs) g.0 (e, above_more account_cmp account_total account_of (account_of r) (account_of f) fs e h.0), go (f ∷ fs) h)
  | Equal ↦ λ e. (above_balances (account_of r) rs fs g.0 (above_same account_cmp account_total account_of (account_of r) (account_of f) fs e h.0), go fs h.1)
  | Greater ↦ λ e. (let l = to_less (account_of r) (account_of f) e in
      (above_balances (account_of f) (r ∷ rs) fs (l, above_more account_cmp account_total account_of (account_of f) (account_of r) rs l g.0) h.0, rising_with r rs fs g h.1 go))
] refl

pub balances_rising : (rs fs : List Due) → Rises rs → Rises fs →
    IsRising account_cmp balance_account (balances_of rs fs)
balances_rising [] fs g h = rising_filed fs h
balances_rising (r ∷ rs) fs g h = rising_with r rs fs g h (λ gs k. balances_rising rs gs g.1 k)

-- ---- what stands on an account

-- the balance of what the two lists have
abbrev pub met : Option Due → Option Due → Option Balance
met None None = None
met None (Some f) = Some (filed_only f)
met (Some r) None = Some (reported_only r)
met (Some r) (Some f) = Some (both_sides r f)

abbrev pub due_at : List Due → Account → Option Due
due_at ds p = at_key account_cmp account_of ds p

abbrev pub balance_at : List Balance → Account → Option Balance
balance_at bs p = at_key account_cmp balance_account bs p

met_filed : (o : Option Due) → option_map filed_only o ≡ met None o
met_filed None = refl
met_filed (Some f) = refl

module _ (p : Account) where
  at_filed : (fs : List Due) → balance_at (map filed_only fs) p ≡ met None (due_at fs p)
  at_filed fs = at_key_map account_cmp account_of balance_account filed_only (λ f. refl) fs p ∙ met_filed (due_at fs p)

  at_with : (r : Due) (rs fs : List Due) → Rises (r ∷ rs) → Rises fs →
      ((gs : List Due) → Rises gs → balance_at (balances_of rs gs) p ≡ met (due_at rs p) (due_at gs p)) →
      balance_at (balances_with r (balances_of rs) fs) p ≡ met (due_at (r ∷ rs) p) (due_at fs p)
  at_with r rs [] g h go = elim (is_eq (account_cmp (account_of r) p)) as (λ b. (if b then Some (reported_only r) else balance_at (balances_of rs []) p) ≡ met (if b then Some r else due_at rs p) None) [
    | true ↦ refl
    | false ↦ go [] tt
  ]
  at_with r rs (f ∷ fs) g h go = elim (account_cmp (account_of r) (account_of f)) as (λ o. account_cmp (account_of r) (account_of f) ≡ o → balance_at (balances_by o r f (balances_of rs (f ∷ fs)) (balances_of rs fs) (balances_with r (balances_of rs) fs)) p ≡ met (due_at (r ∷ rs) p) (due_at (f ∷ fs) p)) [
    | Less ↦ λ e. (elim (account_cmp (account_of r) p) as (λ o. account_cmp (account_of r) p ≡ o → (if is_eq o then Some (reported_only r) else balance_at (balances_of rs (f ∷ fs)) p) ≡ met (if is_eq o then Some r else due_at rs p) (due_at (f ∷ fs) p)) [
      | Less ↦ λ t. go (f ∷ fs) h
      | Equal ↦ λ t. sym (ap (λ x. met (Some r) x) (at_key_above account_cmp account_total account_of (account_of r) p (f ∷ fs) (e, above_more account_cmp account_total account_of (account_of r) (account_of f) fs e h.0) t))
      | Greater ↦ λ t. go (f ∷ fs) h
    ] refl)
    | Equal ↦ λ e. (let same = account_total.congr (account_of r) (account_of f) p e in
        subst (λ o. (if is_eq (account_cmp (account_of r) p) then Some (both_sides r f) else balance_at (balances_of rs fs) p) ≡ met (due_at (r ∷ rs) p) (if is_eq o then Some f else due_at fs p)) same
        (elim (is_eq (account_cmp (account_of r) p)) as (λ b. (if b then Some (both_sides r f) else balance_at (balances_of rs fs) p) ≡ met (if b then Some r else due_at rs p) (if b then Some f else due_at fs p)) [
          | true ↦ refl
          | false ↦ go fs h.1
        ]))
    | Greater ↦ λ e. (let l = to_less (account_of r) (account_of f) e in
        elim (account_cmp (account_of f) p) as (λ o. account_cmp (account_of f) p ≡ o → (if is_eq o then Some (filed_only f) else balance_at (balances_with r (balances_of rs) fs) p) ≡ met (due_at (r ∷ rs) p) (if is_eq o then Some f else due_at fs p)) [
          | Less ↦ λ t. at_with r rs fs g h.1 go
          | Equal ↦ λ t. sym (ap (λ x. met x (Some f)) (at_key_above account_cmp account_total account_of (account_of f) p (r ∷ rs) (l, above_more account_cmp account_total account_of (account_of f) (account_of r) rs l g.0) t))
          | Greater ↦ λ t. at_with r rs fs g h.1 go
        ] refl)
  ] refl

  pub at_balances : (rs fs : List Due) → Rises rs → Rises fs →
      balance_at (balances_of rs fs) p ≡ met (due_at rs p) (due_at fs p)
  at_balances [] fs g h = at_filed fs
  at_balances (r ∷ rs) fs g h = at_with r rs fs g h (λ gs k. at_balances rs gs g.1 k)

-- ---- what is owed and settled of a balance

-- the amount of what is owed is the difference
pub due_amount_is : (b : Balance) (d : Due) → Some d ≡ owed_of b → d.amount ≡ difference b.reported b.filed
due_amount_is b d e = by (value_order b.reported b.filed) e
  where
    by : (o : Ordering) → Some d ≡ due_by o b → d.amount ≡ difference b.reported b.filed
    by Less e = cc e
    by Equal e = absurd (cc e)
    by Greater e = cc e

pub settled_by_bounded : (b : Balance) → AreBothBounded b → IsWithinBound (settled_of b).amount
settled_by_bounded b h = by (value_order b.reported b.filed)
  where
    by : (o : Ordering) → IsWithinBound (settled_by (due_by o b) b.filed)
    by Less = settled_bounded b.reported b.filed h.reported h.filed
    by Equal = h.filed
    by Greater = settled_bounded b.reported b.filed h.reported h.filed
