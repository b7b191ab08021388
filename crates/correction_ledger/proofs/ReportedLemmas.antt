-- What the rows of a book report up to a month, row by row.
use Rattle.std.proofs.Common.{◌≡◌, List, [], ◌∷◌, ◌++◌, Bool, true, false, if◌then◌else◌, Option, Some, None, option_map, ◌<◌, refl, sym, ap, subst, ◌∙◌, append_assoc, append-nil, arith}
use Rattle.std.specs.Prelude.{ℕ, IsTrue, option_and_then, unwrap_or}
use Rattle.std.specs.List.{AllByRecursion}
use Rattle.std.specs.Option.{option_map_or, option_or}
use Rattle.std.specs.declared.cmp.Ordering.{Ordering}
use Rattle.std.specs.declared.cmp.Ordering.TheVariants.{Less, Equal, Greater}
use Rattle.std.specs.Ordering.{is_eq, ordering_then}
use Rattle.std.proofs.lemmas.Cmp.{tied_itself}
use Rattle.limits_file.specs.Limits.{IsWithinBound}
use Rattle.rising_lists.specs.Keyed.{at_key, AreAbove, IsRising}
use Rattle.payroll_records.specs.declared.month.Month.{Month}
use Rattle.payroll_records.specs.declared.record.Key.{Key}
use Rattle.payroll_records.specs.declared.values.NamedValue.{NamedValue}
use Rattle.payroll_records.specs.NamedValues.{name_cmp}
use Rattle.payroll_records.specs.Orders.{key_cmp}
use Rattle.payroll_records.proofs.Laws.{key_total, key_same}
use Rattle.carry_bindings.specs.Carrying.{named, zero_amount}
use Rattle.carry_bindings.specs.Conditions.{AreBounded}
use Rattle.book_year.specs.Rows.{done_outputs}
use Rattle.recalc_engine.specs.BookLaws.{row_key}
use Rattle.recalc_engine.specs.MonthRows.{KeyedRow}
use Rattle.correction_ledger.specs.declared.due.Due.{Due}
use Rattle.recalc_engine.specs.RowLaws.{AreNamed, HaveNames}
use Rattle.correction_ledger.specs.Months.{is_up_to}
use Rattle.correction_ledger.specs.Owed.{output_named, reported}
use Rattle.correction_ledger.specs.Accounts.{Account, amount_at, due_amount, account_cmp, account_of}
use Rattle.correction_ledger.specs.private.RowViews.{AreListed, AreReported, due_name, outputs_by, outputs_or_none}
use Rattle.correction_ledger.proofs.RisingLemmas.{all_append, all_more, at_key_append, rising_append}

-- ---- the outputs of a row that count

bounded_or_none : (o : Option (List NamedValue)) → AreBounded o →
    AllByRecursion (λ v. IsWithinBound v.value) (outputs_or_none o)
bounded_or_none None h = tt
bounded_or_none (Some vs) h = h

pub outputs_bounded : (month : Month) (row : KeyedRow) → AreBounded (done_outputs row.state) →
    AllByRecursion (λ v. IsWithinBound v.value) (outputs_by month row)
outputs_bounded month row h = elim (is_up_to month row.key.day) as (λ b. AllByRecursion (λ v. IsWithinBound v.value) (if b then outputs_or_none (done_outputs row.state) else [])) [
  | true ↦ bounded_or_none (done_outputs row.state) h
  | false ↦ tt
]

no_names : HaveNames []
no_names i j d l m = absurd (nothing j m)
  where
    nothing : (j : ℕ) → j < 0 → ⊥
    nothing j m = omega arith

named_or_none : (o : Option (List NamedValue)) → AreNamed o → HaveNames (outputs_or_none o)
named_or_none None h = no_names
named_or_none (Some vs) h = h

pub outputs_named : (month : Month) (row : KeyedRow) → AreNamed (done_outputs row.state) →
    HaveNames (outputs_by month row)
outputs_named month row h = elim (is_up_to month row.key.day) as (λ b. HaveNames (if b then outputs_or_none (done_outputs row.state) else [])) [
  | true ↦ named_or_none (done_outputs row.state) h
  | false ↦ no_names
]

-- ---- the accounts of one run

less_not : (o : Ordering) → o ≡ Less → is_eq o ≡ false
less_not o l = ap is_eq l

module _ (k : Key) where
  abbrev Keyed : List Due → Type 0
  Keyed ds = AllByRecursion (λ d. d.key ≡ k) ds

  above_names : (n : List ℕ) (ds : List Due) → Keyed ds → AreAbove name_cmp due_name n ds →
      AreAbove account_cmp account_of (record { key = k; name = n }) ds
  above_names n [] g h = tt
  above_names n (d ∷ ds) g h = (
    ap (λ (x : Key). ordering_then (key_cmp k x) (name_cmp n d.name)) g.0
        ∙ ap (λ o. ordering_then o (name_cmp n d.name)) (tied_itself key_total k) ∙ h.0,
    above_names n ds g.1 h.1,
  )

  rising_accounts : (ds : List Due) → Keyed ds → IsRising name_cmp due_name ds → IsRising account_cmp account_of ds
  rising_accounts [] g h = tt
  rising_accounts (d ∷ ds) g h =
      (subst (λ (x : Key). AreAbove account_cmp account_of (record { key = x; name = d.name }) ds) (sym g.0) (above_names d.name ds g.1 h.0), rising_accounts ds g.1 h.1)

  at_of_run : (ds : List Due) (p : Account) → Keyed ds → key_cmp k p.key ≡ Equal →
      at_key account_cmp account_of ds p ≡ at_key name_cmp due_name ds p.name
  at_of_run [] p g t = refl
  at_of_run (d ∷ ds) p g t =
      ap (λ o. if is_eq (ordering_then o (name_cmp d.name p.name)) then Some d else at_key account_cmp account_of ds p) (ap (λ (x : Key). key_cmp x p.key) g.0 ∙ t)
      ∙ ap (λ o. if is_eq (name_cmp d.name p.name) then Some d else o) (at_of_run ds p g.1 t)

  apart_by : (o q : Ordering) → is_eq o ≡ false → is_eq (ordering_then o q) ≡ false
  apart_by Less q e = refl
  apart_by Equal q e = cc e
  apart_by Greater q e = refl

  at_other_key : (ds : List Due) (p : Account) → AllByRecursion (λ d. is_eq (key_cmp d.key p.key) ≡ false) ds →
      at_key account_cmp account_of ds p ≡ None
  at_other_key [] p h = refl
  at_other_key (d ∷ ds) p h =
      ap (λ b. if b then Some d else at_key account_cmp account_of ds p) (apart_by (key_cmp d.key p.key) (name_cmp d.name p.name) h.0)
      ∙ at_other_key ds p h.1

  above_keys : (p : Account) (ds : List Due) → key_cmp p.key k ≡ Less → Keyed ds → AreAbove account_cmp account_of p ds
  above_keys p [] l g = tt
  above_keys p (d ∷ ds) l g =
      (ap (λ o. ordering_then o (name_cmp p.name d.name)) (ap (λ (x : Key). key_cmp p.key x) g.0 ∙ l), above_keys p ds l g.1)

-- ---- one row more

or_none : {X : Type 0} (o : Option X) → option_or o None ≡ o
or_none None = refl
or_none (Some x) = refl

rows_below : (k : Key) (rows : List KeyedRow) → AllByRecursion (λ row. key_cmp row.key k ≡ Less) rows →
    at_key key_cmp row_key rows k ≡ None
rows_below k [] h = refl
rows_below k (row ∷ rows) h = ap (λ o. if is_eq o then Some row else at_key key_cmp row_key rows k) h.0
    ∙ rows_below k rows h.1

value_or_zero : (n : List ℕ) (o : Option (List NamedValue)) →
    unwrap_or (named n (outputs_or_none o)) zero_amount ≡ unwrap_or (option_and_then (named n) o) zero_amount
value_or_zero n None = refl
value_or_zero n (Some vs) = refl

amount_or_zero : (o : Option Due) →
    option_map_or due_amount o zero_amount ≡ unwrap_or (option_map due_amount o) zero_amount
amount_or_zero None = refl
amount_or_zero (Some d) = refl

all_kept : {X : Type 0} (P : X → Type 0) (xs : List X) (x : X) → AllByRecursion P (xs ++ (x ∷ [])) →
    AllByRecursion P xs × P x
all_kept P [] x h = (tt, h.0)
all_kept P (y ∷ ys) x h = (let more = all_kept P ys x h.1 in ((h.0, more.0), more.1))

module _ (rows : List KeyedRow) (month : Month) (row : KeyedRow) (dues run : List Due) (h : AreReported rows month dues) (g : AreListed row.key (outputs_by month row) run) (lower : AllByRecursion (λ r. key_cmp r.key row.key ≡ Less) rows) where
  below_row : AllByRecursion (λ d. key_cmp d.key row.key ≡ Less) dues
  below_row = h.below row.key lower

  rises : IsRising account_cmp account_of (dues ++ run)
  rises = rising_append account_cmp account_of dues run h.rising (rising_accounts row.key run g.keyed g.rising)
      (all_more (λ d. key_cmp d.key row.key ≡ Less) (λ d. AreAbove account_cmp account_of (account_of d) run) dues (λ d l. above_keys row.key (account_of d) run l g.keyed) below_row)

  -- on an account of the row's key
  here : (p : Account) → IsTrue (is_up_to month p.key.day) → key_cmp row.key p.key ≡ Equal →
      amount_at (dues ++ run) p ≡ reported (rows ++ (row ∷ [])) p
  here p t e =
      let key = key_same row.key p.key e in
      let dues_none = at_other_key row.key dues p (all_more (λ d. key_cmp d.key row.key ≡ Less) (λ d. is_eq (key_cmp d.key p.key) ≡ false) dues (λ d l. less_not (key_cmp d.key p.key) (ap (λ x. key_cmp d.key x) (sym key) ∙ l)) below_row) in
      let rows_none = rows_below p.key rows (subst (λ x. AllByRecursion (λ r. key_cmp r.key x ≡ Less) rows) key lower) in
      let due : at_key account_cmp account_of (dues ++ run) p ≡ at_key name_cmp due_name run p.name = at_key_append account_cmp account_of dues run p ∙ ap (λ o. option_or o (at_key account_cmp account_of run p)) dues_none ∙ at_of_run row.key run p g.keyed e in
      let found : at_key key_cmp row_key (rows ++ (row ∷ [])) p.key ≡ Some row = at_key_append key_cmp row_key rows (row ∷ []) p.key ∙ ap (λ o. option_or o (at_key key_cmp row_key (row ∷ []) p.key)) rows_none ∙ ap (λ o. if is_eq o then Some row else None) e in
      let counts : outputs_by month row ≡ outputs_or_none (done_outputs row.state) = ap (λ b. if b then outputs_or_none (done_outputs row.state) else []) (ap (λ (x : Key). is_up_to month x.day) key ∙ t) in
      ap (λ o. option_map_or due_amount o zero_amount) due
      ∙ amount_or_zero (at_key name_cmp due_name run p.name)
      ∙ ap (λ o. unwrap_or o zero_amount) (g.at p.name ∙ ap (named p.name) counts)
      ∙ value_or_zero p.name (done_outputs row.state)
      ∙ sym (ap (λ o. unwrap_or (option_and_then (output_named p.name) o) zero_amount) found)

  -- at another account
  other : (p : Account) → IsTrue (is_up_to month p.key.day) → is_eq (key_cmp row.key p.key) ≡ false →
      amount_at (dues ++ run) p ≡ reported (rows ++ (row ∷ [])) p
  other p t e =
      let run_none = at_other_key row.key run p (all_more (λ d. d.key ≡ row.key) (λ d. is_eq (key_cmp d.key p.key) ≡ false) run (λ d k. ap (λ (x : Key). is_eq (key_cmp x p.key)) k ∙ e) g.keyed) in
      let due : at_key account_cmp account_of (dues ++ run) p ≡ at_key account_cmp account_of dues p = at_key_append account_cmp account_of dues run p ∙ ap (λ o. option_or (at_key account_cmp account_of dues p) o) run_none ∙ or_none (at_key account_cmp account_of dues p) in
      let found : at_key key_cmp row_key (rows ++ (row ∷ [])) p.key ≡ at_key key_cmp row_key rows p.key = at_key_append key_cmp row_key rows (row ∷ []) p.key ∙ ap (λ b. option_or (at_key key_cmp row_key rows p.key) (if b then Some row else None)) e ∙ or_none (at_key key_cmp row_key rows p.key) in
      ap (λ o. option_map_or due_amount o zero_amount) due
      ∙ h.amounts p t
      ∙ sym (ap (λ o. unwrap_or (option_and_then (output_named p.name) o) zero_amount) found)

  tied_is : (o : Ordering) → is_eq o ≡ true → o ≡ Equal
  tied_is Less e = cc e
  tied_is Equal e = refl
  tied_is Greater e = cc e

  run_up_to : (b : Bool) → is_up_to month row.key.day ≡ b → AllByRecursion (λ d. IsTrue (is_up_to month d.key.day)) run
  run_up_to true t = all_more (λ d. d.key ≡ row.key) (λ d. IsTrue (is_up_to month d.key.day)) run (λ d k. ap (λ (x : Key). is_up_to month x.day) k ∙ t) g.keyed
  run_up_to false t = subst (λ ds. AllByRecursion (λ d. IsTrue (is_up_to month d.key.day)) ds) (sym (g.none (ap (λ b. if b then outputs_or_none (done_outputs row.state) else []) t))) tt

  below_more : (k : Key) → AllByRecursion (λ r. key_cmp r.key k ≡ Less) (rows ++ (row ∷ [])) →
      AllByRecursion (λ d. key_cmp d.key k ≡ Less) (dues ++ run)
  below_more k all =
      let parts = all_kept (λ r. key_cmp r.key k ≡ Less) rows row all in
      all_append (λ d. key_cmp d.key k ≡ Less) dues run (h.below k parts.0) (all_more (λ d. d.key ≡ row.key) (λ d. key_cmp d.key k ≡ Less) run (λ d e. ap (λ (x : Key). key_cmp x k) e ∙ parts.1) g.keyed)

  pub reported_more : AreBounded (done_outputs row.state) → AreReported (rows ++ (row ∷ [])) month (dues ++ run)
  reported_more bounded = record {
    rising = rises;
    amounts = λ p t. (elim (is_eq (key_cmp row.key p.key)) as (λ b. is_eq (key_cmp row.key p.key) ≡ b → amount_at (dues ++ run) p ≡ reported (rows ++ (row ∷ [])) p) [
      | true ↦ λ e. here p t (tied_is (key_cmp row.key p.key) e)
      | false ↦ λ e. other p t e
    ]) refl;
    up_to = all_append (λ d. IsTrue (is_up_to month d.key.day)) dues run h.up_to (run_up_to (is_up_to month row.key.day) refl);
    bounded = all_append (λ d. IsWithinBound d.amount) dues run h.bounded (g.bounded (outputs_bounded month row bounded));
    below = below_more;
  }

pub none_reported : (month : Month) → AreReported [] month []
none_reported month = record { rising = tt; amounts = λ p t. refl; up_to = tt; bounded = tt; below = λ k all. tt }

-- ---- the rows so far

-- the rows are some that are done, and these are left
pub record IsUnderway (rows : List KeyedRow) (month : Month) (left : List KeyedRow) (dues : List Due) : Type 0 where
  pub done : List KeyedRow
  pub parts : rows ≡ done ++ left
  pub reported : AreReported done month dues

lower_of : (done : List KeyedRow) (row : KeyedRow) (left : List KeyedRow) →
    IsRising key_cmp row_key (done ++ (row ∷ left)) → AllByRecursion (λ r. key_cmp r.key row.key ≡ Less) done
lower_of [] row left h = tt
lower_of (r ∷ rs) row left h = (first rs h.0, lower_of rs row left h.1)
  where
    first : (ss : List KeyedRow) → AreAbove key_cmp row_key r.key (ss ++ (row ∷ left)) → key_cmp r.key row.key ≡ Less
    first [] a = a.0
    first (s ∷ ss) a = first ss a.1

all_there : {X : Type 0} (P : X → Type 0) (xs : List X) (x : X) (ys : List X) → AllByRecursion P (xs ++ (x ∷ ys)) → P x
all_there P [] x ys h = h.0
all_there P (y ∷ zs) x ys h = all_there P zs x ys h.1

pub underway_more : (rows : List KeyedRow) (month : Month) (row : KeyedRow) (left : List KeyedRow) (dues run : List Due) →
    IsRising key_cmp row_key rows → AllByRecursion (λ r. AreBounded (done_outputs r.state)) rows →
    IsUnderway rows month (row ∷ left) dues → AreListed row.key (outputs_by month row) run → IsUnderway rows month left (dues ++ run)
underway_more rows month row left dues run rise bounded u g = record {
  done = u.done ++ (row ∷ []);
  parts = u.parts ∙ sym (append_assoc u.done (row ∷ []) left);
  reported = reported_more u.done month row dues run u.reported g
      (lower_of u.done row left (subst (IsRising key_cmp row_key) u.parts rise))
      (all_there (λ r. AreBounded (done_outputs r.state)) u.done row left (subst (AllByRecursion (λ r. AreBounded (done_outputs r.state))) u.parts bounded));
}

pub named_there : (rows : List KeyedRow) (month : Month) (row : KeyedRow) (left : List KeyedRow) (dues : List Due) →
    AllByRecursion (λ r. AreNamed (done_outputs r.state)) rows → IsUnderway rows month (row ∷ left) dues →
    HaveNames (outputs_by month row)
named_there rows month row left dues named u =
    outputs_named month row (all_there (λ r. AreNamed (done_outputs r.state)) u.done row left (subst (AllByRecursion (λ r. AreNamed (done_outputs r.state))) u.parts named))

-- at the end all rows are done
pub underway_done : (rows : List KeyedRow) (month : Month) (left : List KeyedRow) (dues : List Due) → left ≡ [] →
    IsUnderway rows month left dues → AreReported rows month dues
underway_done rows month left dues none u =
    let whole : rows ≡ u.done = u.parts ∙ ap (λ l. u.done ++ l) none ∙ append-nil u.done in
    subst (λ rs. AreReported rs month dues) (sym whole) u.reported

-- at the start none is
pub begins : (rows : List KeyedRow) (month : Month) (dues : List Due) → dues ≡ [] → IsUnderway rows month rows dues
begins rows month dues none = record { done = []; parts = refl; reported = subst (AreReported [] month) (sym none) (none_reported month) }
