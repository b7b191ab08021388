-- There is a list of all that is owed: what is owed on each account that the book or the entries have.
use Rattle.std.proofs.Common.{◌≡◌, List, [], ◌∷◌, ◌++◌, map, Bool, true, false, ◌||◌, if◌then◌else◌, Option, Some, None, option_map, refl, sym, ap, ap₂, ◌∙◌}
use Rattle.std.specs.Prelude.{ℕ, cond, filter, find, option_and_then, unwrap_or}
use Rattle.std.specs.List.{flat_map, list_any}
use Rattle.std.specs.Str.{bytes_eq}
use Rattle.std.specs.declared.cmp.Ordering.TheVariants.{Equal}
use Rattle.std.specs.Ordering.{is_eq, ordering_then}
use Rattle.std.proofs.lemmas.Bool.{false≢true}
use Rattle.std.proofs.lemmas.List.Folds.{list_any-append}
use Rattle.std.proofs.lemmas.Map.Text.{is_eq-slice_cmp}
use Rattle.rising_lists.specs.Keyed.{at_key, put, IsRising}
use Rattle.rising_lists.proofs.Laws.{at_key_put, put_rising, tied}
use Rattle.payroll_records.specs.declared.month.Month.{Month}
use Rattle.payroll_records.specs.declared.record.Key.{Key}
use Rattle.payroll_records.specs.declared.values.NamedValue.{NamedValue}
use Rattle.payroll_records.specs.NamedValues.{name_cmp}
use Rattle.payroll_records.specs.Orders.{key_cmp}
use Rattle.carry_bindings.specs.Carrying.{named, total, zero_amount}
use Rattle.book_year.specs.Rows.{done_outputs}
use Rattle.recalc_engine.specs.BookLaws.{row_key}
use Rattle.recalc_engine.specs.MonthRows.{KeyedRow}
use Rattle.correction_ledger.specs.declared.due.Due.{Due}
use Rattle.correction_ledger.specs.declared.due.Entry.{Entry}
use Rattle.correction_ledger.specs.Months.{is_up_to}
use Rattle.correction_ledger.specs.Owed.{IsOwed, entry_amount, filed, is_for, output_named, reported}
use Rattle.correction_ledger.specs.OwedLaws.{HasOneOwed}
use Rattle.correction_ledger.specs.Accounts.{Account, account_cmp, account_of}
use Rattle.correction_ledger.specs.private.RowViews.{outputs_or_none}
use Rattle.correction_ledger.proofs.OwedLemmas.{owed_at, owed_between, owed_of_at, owed_once, owed_account}
use Rattle.correction_ledger.proofs.AccountLemmas.{account_same, account_total}

-- whether an account is among some
abbrev among : Account → List Account → Bool
among p qs = list_any (λ q. is_eq (account_cmp q p)) qs

abbrev put_some : Option Due → List Due → List Due
put_some None ds = ds
put_some (Some d) ds = put account_cmp account_of d ds

module _ (rows : List KeyedRow) (entries : List Entry) (month : Month) where
  abbrev owed_here : Account → Option Due
  owed_here p = owed_at rows entries month p

  -- what is owed at these accounts
  abbrev collected : List Account → List Due
  collected [] = []
  collected (q ∷ qs) = put_some (owed_here q) (collected qs)

  put_some_rising : (o : Option Due) (ds : List Due) → IsRising account_cmp account_of ds →
      IsRising account_cmp account_of (put_some o ds)
  put_some_rising None ds h = h
  put_some_rising (Some d) ds h = put_rising account_cmp account_total account_of d ds h

  collected_rising : (qs : List Account) → IsRising account_cmp account_of (collected qs)
  collected_rising [] = tt
  collected_rising (q ∷ qs) = put_some_rising (owed_here q) (collected qs) (collected_rising qs)

  abbrev owed_if : Bool → Account → Option Due
  owed_if b p = if b then owed_here p else None

  if_none : (b : Bool) (p : Account) → owed_here p ≡ None → owed_if b p ≡ None
  if_none true p e = e
  if_none false p e = refl

  -- one account more
  collected_more : (q p : Account) (ds : List Due) (b : Bool) (o : Option Due) → owed_here q ≡ o →
      at_key account_cmp account_of ds p ≡ owed_if b p →
      at_key account_cmp account_of (put_some o ds) p ≡ owed_if (is_eq (account_cmp q p) || b) p
  collected_more q p ds b None e h = by (is_eq (account_cmp q p)) refl
    where
      by : (t : Bool) → is_eq (account_cmp q p) ≡ t → at_key account_cmp account_of ds p ≡ owed_if (t || b) p
      by true t = (let none = ap owed_here (sym (account_same q p (tied (account_cmp q p) t))) ∙ e in h ∙ if_none b p none ∙ sym none)
      by false t = h
  collected_more q p ds b (Some d) e h =
      at_key_put account_cmp account_total account_of d ds p
      ∙ ap (λ t. if is_eq (account_cmp t p) then Some d else at_key account_cmp account_of ds p) (owed_account rows entries month d q e)
      ∙ by (is_eq (account_cmp q p)) refl
    where
      by : (t : Bool) → is_eq (account_cmp q p) ≡ t →
          (if t then Some d else at_key account_cmp account_of ds p) ≡ owed_if (t || b) p
      by true t = sym e ∙ ap owed_here (account_same q p (tied (account_cmp q p) t))
      by false t = h

  at_collected : (qs : List Account) (p : Account) →
      at_key account_cmp account_of (collected qs) p ≡ owed_if (among p qs) p
  at_collected [] p = refl
  at_collected (q ∷ qs) p = collected_more q p (collected qs) (among p qs) (owed_here q) refl (at_collected qs p)

-- ---- the accounts of a book and of entries

abbrev output_account : Key → NamedValue → Account
output_account k v = record { key = k; name = v.name }

abbrev row_accounts : KeyedRow → List Account
row_accounts row = map (output_account row.key) (outputs_or_none (done_outputs row.state))

abbrev entry_account : Entry → Account
entry_account e = account_of e.due

abbrev accounts : List KeyedRow → List Entry → List Account
accounts rows entries = flat_map row_accounts rows ++ map entry_account entries

first_not : (a b : Bool) → (a || b) ≡ false → a ≡ false
first_not true b e = absurd (false≢true (sym e))
first_not false b e = refl

second_not : (a b : Bool) → (a || b) ≡ false → b ≡ false
second_not true b e = absurd (false≢true (sym e))
second_not false b e = e

none_filed : (entries : List Entry) (p : Account) → among p (map entry_account entries) ≡ false →
    filter (is_for p) entries ≡ []
none_filed [] p h = refl
none_filed (e ∷ es) p h =
    ap (λ b. cond b (e ∷ filter (is_for p) es) (filter (is_for p) es)) (first_not (is_for p e) (among p (map entry_account es)) h)
    ∙ none_filed es p (second_not (is_for p e) (among p (map entry_account es)) h)

none_named : (k : Key) (vs : List NamedValue) (p : Account) → key_cmp k p.key ≡ Equal →
    among p (map (output_account k) vs) ≡ false → named p.name vs ≡ None
none_named k [] p t h = refl
none_named k (v ∷ vs) p t h =
    let here = first_not (is_eq (account_cmp (output_account k v) p)) (among p (map (output_account k) vs)) h in
    let name : bytes_eq v.name p.name ≡ false = sym (is_eq-slice_cmp v.name p.name) ∙ sym (ap (λ o. is_eq (ordering_then o (name_cmp v.name p.name))) t) ∙ here in
    ap (λ b. option_map (λ (x : NamedValue). x.value) (cond b (Some v) (find (λ x. bytes_eq x.name p.name) vs))) name
    ∙ none_named k vs p t (second_not (is_eq (account_cmp (output_account k v) p)) (among p (map (output_account k) vs)) h)

by_outputs : (o : Option (List NamedValue)) (n : List ℕ) → named n (outputs_or_none o) ≡ None →
    option_and_then (named n) o ≡ None
by_outputs None n e = refl
by_outputs (Some vs) n e = e

none_reported : (rows : List KeyedRow) (p : Account) → among p (flat_map row_accounts rows) ≡ false →
    option_and_then (output_named p.name) (at_key key_cmp row_key rows p.key) ≡ None
none_reported [] p h = refl
none_reported (row ∷ rows) p h =
    let parts = sym (list_any-append (λ q. is_eq (account_cmp q p)) (row_accounts row) (flat_map row_accounts rows)) ∙ h in
    let here = first_not (among p (row_accounts row)) (among p (flat_map row_accounts rows)) parts in
    let more = none_reported rows p (second_not (among p (row_accounts row)) (among p (flat_map row_accounts rows)) parts) in
    elim (is_eq (key_cmp row.key p.key)) as (λ b. is_eq (key_cmp row.key p.key) ≡ b → option_and_then (output_named p.name) (if b then Some row else at_key key_cmp row_key rows p.key) ≡ None) [
      | true ↦ λ t. by_outputs (done_outputs row.state) p.name (none_named row.key (outputs_or_none (done_outputs row.state)) p (tied (key_cmp row.key p.key) t) here)
      | false ↦ λ t. more
    ] refl

module _ (rows : List KeyedRow) (entries : List Entry) (month : Month) where
  -- elsewhere nothing is owed
  elsewhere : (p : Account) → among p (accounts rows entries) ≡ false → owed_at rows entries month p ≡ None
  elsewhere p h =
      let parts = sym (list_any-append (λ q. is_eq (account_cmp q p)) (flat_map row_accounts rows) (map entry_account entries)) ∙ h in
      let r : reported rows p ≡ zero_amount = ap (λ o. unwrap_or o zero_amount) (none_reported rows p (first_not (among p (flat_map row_accounts rows)) (among p (map entry_account entries)) parts)) in
      let f : filed entries p ≡ zero_amount = ap (λ l. total (map entry_amount l)) (none_filed entries p (second_not (among p (flat_map row_accounts rows)) (among p (map entry_account entries)) parts)) in
      ap₂ (λ x y. if is_up_to month p.key.day then owed_between x y p else None) r f
      ∙ none_if (is_up_to month p.key.day)
    where
      none_if : (b : Bool) → (if b then owed_between zero_amount zero_amount p else None) ≡ None
      none_if true = refl
      none_if false = refl

  whole : (p : Account) (b : Bool) → among p (accounts rows entries) ≡ b →
      owed_if rows entries month b p ≡ owed_at rows entries month p
  whole p true h = refl
  whole p false h = sym (elsewhere p h)

  some_owed : IsOwed rows entries month (collected rows entries month (accounts rows entries))
  some_owed = owed_of_at rows entries month (collected rows entries month (accounts rows entries)) (record {
    in_order = collected_rising rows entries month (accounts rows entries);
    at = λ p. at_collected rows entries month (accounts rows entries) p
        ∙ whole p (among p (accounts rows entries)) refl;
  })

  -- there is exactly one such list
  pub owed_one : HasOneOwed rows entries month
  owed_one = record {
    dues = collected rows entries month (accounts rows entries);
    owed = some_owed;
    alone = λ other h. owed_once rows entries month other (collected rows entries month (accounts rows entries)) h some_owed;
  }
