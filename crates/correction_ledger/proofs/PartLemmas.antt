-- What is owed for the employees before a cut, and then for the others, is what is owed for all; so it is with what is filed.
use Rattle.std.proofs.Common.{◌≡◌, inl, inr, ℕ, ◌+◌, List, [], ◌∷◌, ◌++◌, length, map, Bool, true, false, ◌&&◌, if◌then◌else◌, Option, Some, None, option_map, refl, sym, ap, ap₂, ◌∙◌, arith, length-append}
use Rattle.std.specs.Prelude.{cond, filter, find, not, option_and_then, unwrap_or}
use Rattle.std.specs.List.{AllByRecursion}
use Rattle.std.specs.Option.{option_or}
use Rattle.std.specs.declared.cmp.Ordering.{Ordering}
use Rattle.std.specs.declared.cmp.Ordering.TheVariants.{Less, Equal, Greater}
use Rattle.std.specs.Ordering.{is_eq, is_lt, nat_cmp, ordering_reverse, ordering_then}
use Rattle.std.specs.Cmp.Lexicographic.{nat_list_cmp_total, slice_cmp}
use Rattle.std.proofs.Math.Bool.{and-false}
use Rattle.std.proofs.lemmas.Bool.{not-true, not_from_true}
use Rattle.std.proofs.lemmas.List.{append-nil, length-map, map-append}
use Rattle.std.proofs.lemmas.List.Elements.{filter-append, filter_agree}
use Rattle.rising_lists.specs.Keyed.{at_key, AreAbove}
use Rattle.rising_lists.proofs.Laws.{In, above_all_of, in_found, none_some, text_same, tied}
use Rattle.payroll_records.specs.declared.month.Month.{Month}
use Rattle.payroll_records.specs.declared.record.Key.{Key}
use Rattle.payroll_records.specs.NamedValues.{name_cmp}
use Rattle.payroll_records.specs.Orders.{day_cmp, key_cmp}
use Rattle.payroll_records.proofs.Laws.{key_same}
use Rattle.carry_bindings.specs.Carrying.{total, zero_amount}
use Rattle.recalc_engine.specs.BookLaws.{row_key}
use Rattle.recalc_engine.specs.MonthRows.{KeyedRow}
use Rattle.correction_ledger.specs.declared.due.Due.{Due}
use Rattle.correction_ledger.specs.declared.due.Entry.{Entry}
use Rattle.correction_ledger.specs.Filings.{Filings, entry_with}
use Rattle.correction_ledger.specs.Months.{is_up_to}
use Rattle.correction_ledger.specs.Open.{first_open, is_open}
use Rattle.correction_ledger.specs.Owed.{IsOwed, entry_amount, is_for, output_named}
use Rattle.correction_ledger.specs.OwedLaws.{DuesAreJoined, FilingsAreJoined}
use Rattle.correction_ledger.specs.Accounts.{Account, account_cmp, account_of}
use Rattle.correction_ledger.specs.Parts.{entries_where, filings_where, is_before, is_from, rows_where}
use Rattle.correction_ledger.proofs.AccountLemmas.{account_same, account_total}
use Rattle.correction_ledger.proofs.AnswerLemmas.{filings_same}
use Rattle.correction_ledger.proofs.OwedLemmas.{at_of_owed, owed_at, owed_between, owed_of_at}
use Rattle.correction_ledger.proofs.RisingLemmas.{at_key_append, rising_append}

-- ---- the elements whose keys pass a test

module _ {K X : Type 0} (cmp : K → K → Ordering) (same : (a b : K) → cmp a b ≡ Equal → a ≡ b) (key : X → K) (test : K → Bool) (k : K) where
  abbrev ties : X → Bool
  ties x = is_eq (cmp (key x) k)

  abbrev passes : X → Bool
  passes x = test (key x)

  twice : (xs : List X) → filter ties (filter passes xs) ≡ filter (λ x. passes x && ties x) xs
  twice [] = refl
  twice (x ∷ xs) = elim (passes x) as (λ b. filter ties (cond b (x ∷ filter passes xs) (filter passes xs)) ≡ cond (b && ties x) (x ∷ filter (λ x. passes x && ties x) xs) (filter (λ x. passes x && ties x) xs)) [
    | true ↦ ap (λ l. cond (ties x) (x ∷ l) l) (twice xs)
    | false ↦ twice xs
  ]

  -- what ties with the key passes as the key does
  alike : (x : X) → (passes x && ties x) ≡ (test k && ties x)
  alike x = elim (ties x) as (λ t. ties x ≡ t → (passes x && t) ≡ (test k && t)) [
    | true ↦ λ e. ap (λ q. test q && true) (same (key x) k (tied (cmp (key x) k) e))
    | false ↦ λ e. and-false (passes x) ∙ sym (and-false (test k))
  ] refl

  all_or_none : (b : Bool) (xs : List X) → filter (λ x. b && ties x) xs ≡ cond b (filter ties xs) []
  all_or_none true xs = refl
  all_or_none false [] = refl
  all_or_none false (x ∷ xs) = all_or_none false xs

  -- of those that pass all that tie with the key, if it passes, else none
  ties_where : (xs : List X) → filter ties (filter passes xs) ≡ cond (test k) (filter ties xs) []
  ties_where xs =
      twice xs
      ∙ filter_agree (λ x. passes x && ties x) (λ x. test k && ties x) alike xs
      ∙ all_or_none (test k) xs

  abbrev first_of : List X → Option X
  first_of [] = None
  first_of (x ∷ xs) = Some x

  first_there : (xs : List X) → at_key cmp key xs k ≡ first_of (filter ties xs)
  first_there [] = refl
  first_there (x ∷ xs) = elim (ties x) as (λ t. (if t then Some x else at_key cmp key xs k) ≡ first_of (cond t (x ∷ filter ties xs) (filter ties xs))) [
    | true ↦ refl
    | false ↦ first_there xs
  ]

  at_where : (xs : List X) → at_key cmp key (filter passes xs) k ≡ (if test k then at_key cmp key xs k else None)
  at_where xs = first_there (filter passes xs) ∙ ap first_of (ties_where xs) ∙ by (test k)
    where
      by : (b : Bool) → first_of (cond b (filter ties xs) []) ≡ (if b then at_key cmp key xs k else None)
      by true = sym (first_there xs)
      by false = refl

-- ---- what is owed for the employees for whom a test holds

module _ (test : List ℕ → Bool) (rows : List KeyedRow) (entries : List Entry) (month : Month) where
  -- what is owed on an account with this row and these entries
  abbrev owed_from : Account → Option KeyedRow → List Entry → Option Due
  owed_from p row es = if is_up_to month p.key.day then owed_between (unwrap_or (option_and_then (output_named p.name) row) zero_amount) (total (map entry_amount es)) p else None

  -- on an account of theirs what is owed for all, on another nothing
  owed_where : (p : Account) → owed_at (rows_where test rows) (entries_where test entries) month p ≡ (if test p.key.employee then owed_at rows entries month p else None)
  owed_where p =
      ap₂ (owed_from p) (at_where key_cmp key_same row_key (λ (k : Key). test k.employee) p.key rows) (ties_where account_cmp account_same (λ (e : Entry). account_of e.due) (λ (a : Account). test a.key.employee) p entries)
      ∙ by (test p.key.employee)
    where
      none : (b : Bool) → (if b then owed_between zero_amount zero_amount p else None) ≡ None
      none true = refl
      none false = refl

      by : (b : Bool) →
          owed_from p (if b then at_key key_cmp row_key rows p.key else None) (cond b (filter (is_for p) entries) []) ≡ (if b then owed_at rows entries month p else None)
      by true = refl
      by false = none (is_up_to month p.key.day)

  -- what is owed is of one of them
  is_one : (dues : List Due) → IsOwed (rows_where test rows) (entries_where test entries) month dues →
      (d : Due) → In dues d → test d.key.employee ≡ true
  is_one dues h d m =
      let at = at_of_owed (rows_where test rows) (entries_where test entries) month dues h in
      by (test d.key.employee) (sym (owed_where (account_of d)) ∙ sym (at.at (account_of d)) ∙ in_found account_cmp account_total account_of dues d h.in_order m)
    where
      by : (b : Bool) → (if b then owed_at rows entries month (account_of d) else None) ≡ Some d → b ≡ true
      by true e = refl
      by false e = absurd (none_some d e)

-- ---- before a cut, and from it on

less_by : (o : Ordering) → is_lt o ≡ true → o ≡ Less
less_by Less e = refl
less_by Equal e = cc e
less_by Greater e = cc e

apart : (cut a b : List ℕ) → is_before cut a ≡ true → is_from cut b ≡ true → slice_cmp nat_cmp a b ≡ Less
apart cut a b f g = by (slice_cmp nat_cmp b cut) refl g
  where
    less : slice_cmp nat_cmp a cut ≡ Less
    less = less_by (slice_cmp nat_cmp a cut) f

    by : (o : Ordering) → slice_cmp nat_cmp b cut ≡ o → not (is_lt o) ≡ true → slice_cmp nat_cmp a b ≡ Less
    by Less e t = cc t
    by Equal e t = ap (slice_cmp nat_cmp a) (text_same b cut e) ∙ less
    by Greater e t = nat_list_cmp_total.trans a cut b less (nat_list_cmp_total.antisymm cut b ∙ ap ordering_reverse e)

all_from : {X : Type 0} (P : X → Type 0) (xs : List X) → ((x : X) → In xs x → P x) → AllByRecursion P xs
all_from P [] f = tt
all_from P (x ∷ xs) f = (f x (inl refl), all_from P xs (λ y m. f y (inr m)))

module _ (cut : List ℕ) (rows : List KeyedRow) (entries : List Entry) (month : Month) (first rest : List Due)
    (a : IsOwed (rows_where (is_before cut) rows) (entries_where (is_before cut) entries) month first)
    (b : IsOwed (rows_where (is_from cut) rows) (entries_where (is_from cut) entries) month rest) where
  in_first : (d : Due) → In first d → is_before cut d.key.employee ≡ true
  in_first d m = is_one (is_before cut) rows entries month first a d m

  in_rest : (d : Due) → In rest d → is_from cut d.key.employee ≡ true
  in_rest d m = is_one (is_from cut) rows entries month rest b d m

  above : (c d : Due) → In first c → In rest d → account_cmp (account_of c) (account_of d) ≡ Less
  above c d m n =
      ap (λ o. ordering_then (ordering_then o (day_cmp c.key.day d.key.day)) (name_cmp c.name d.name)) (apart cut c.key.employee d.key.employee (in_first c m) (in_rest d n))

  either : (t : Bool) (o : Option Due) → option_or (if t then o else None) (if not t then o else None) ≡ o
  either true None = refl
  either true (Some d) = refl
  either false o = refl

  joined_at : (p : Account) → at_key account_cmp account_of (first ++ rest) p ≡ owed_at rows entries month p
  joined_at p =
      at_key_append account_cmp account_of first rest p
      ∙ ap₂ option_or
      ((at_of_owed (rows_where (is_before cut) rows) (entries_where (is_before cut) entries) month first a).at p ∙ owed_where (is_before cut) rows entries month p)
      ((at_of_owed (rows_where (is_from cut) rows) (entries_where (is_from cut) entries) month rest b).at p ∙ owed_where (is_from cut) rows entries month p)
      ∙ either (is_before cut p.key.employee) (owed_at rows entries month p)

  joined : IsOwed rows entries month (first ++ rest)
  joined = owed_of_at rows entries month (first ++ rest) (record {
    in_order = rising_append account_cmp account_of first rest a.in_order b.in_order (all_from (λ c. AreAbove account_cmp account_of (account_of c) rest) first (λ c m. above_all_of account_cmp account_of (account_of c) rest (all_from (λ d. account_cmp (account_of c) (account_of d) ≡ Less) rest (λ d n. above c d m n))));
    at = joined_at;
  })

pub dues_joined : DuesAreJoined
dues_joined rows entries month cut first rest a b = joined cut rows entries month first rest a b

-- ---- what is filed

-- an element is found among those that pass a test, or among the others
module _ {X : Type 0} (wanted test : X → Bool) where
  passed_over : (w : Bool) (x : X) (o r : Option X) → cond w (Some x) o ≡ None → (o ≡ None → r ≡ None) →
      cond w (Some x) r ≡ None
  passed_over true x o r e f = e
  passed_over false x o r e f = f e

  none_found : (xs : List X) → find wanted (filter test xs) ≡ None → find wanted (filter (λ x. not (test x)) xs) ≡ None →
      find wanted xs ≡ None
  none_found [] h k = refl
  none_found (x ∷ xs) h k = (elim (test x) as (λ t. find wanted (cond t (x ∷ filter test xs) (filter test xs)) ≡ None →
      find wanted (cond (not t) (x ∷ filter (λ x. not (test x)) xs) (filter (λ x. not (test x)) xs)) ≡ None →
      find wanted (x ∷ xs) ≡ None) [
        | true ↦ λ h k. passed_over (wanted x) x (find wanted (filter test xs)) (find wanted xs) h (λ h. none_found xs h k)
        | false ↦ λ h k. passed_over (wanted x) x (find wanted (filter (λ x. not (test x)) xs)) (find wanted xs) k (λ k. none_found xs h k)
      ]) h k

no_key : (row : Option KeyedRow) → option_map row_key row ≡ None → row ≡ None
no_key None e = refl
no_key (Some row) e = cc e

all_closed : (month : Month) (test : List ℕ → Bool) (rows : List KeyedRow) → first_open month (rows_where test rows) ≡ None →
    first_open month (rows_where (λ who. not (test who)) rows) ≡ None → first_open month rows ≡ None
all_closed month test rows h k =
    ap (option_map row_key) (none_found (is_open month) (λ (row : KeyedRow). test row.key.employee) rows
    (no_key (find (is_open month) (rows_where test rows)) h)
    (no_key (find (is_open month) (rows_where (λ who. not (test who)) rows)) k))

module _ (test : List ℕ → Bool) (month : Month) where
  abbrev new : List Due → List Entry
  new dues = map (entry_with month) dues

  all_kept : (dues : List Due) → ((d : Due) → In dues d → test d.key.employee ≡ true) → entries_where test (new dues) ≡ new dues
  all_kept [] f = refl
  all_kept (d ∷ ds) f = rw (f d (inl refl)) (ap (λ l. entry_with month d ∷ l) (all_kept ds (λ e m. f e (inr m))))

  none_kept : (dues : List Due) → ((d : Due) → In dues d → test d.key.employee ≡ false) → entries_where test (new dues) ≡ []
  none_kept [] f = refl
  none_kept (d ∷ ds) f = rw (f d (inl refl)) (none_kept ds (λ e m. f e (inr m)))

  in_parts : (entries : List Entry) (first rest : List Due) →
      entries_where test (entries ++ new (first ++ rest)) ≡ entries_where test entries ++ (entries_where test (new first) ++ entries_where test (new rest))
  in_parts entries first rest =
      filter-append (λ (e : Entry). test e.due.key.employee) entries (new (first ++ rest))
      ∙ ap (λ l. entries_where test entries ++ l) (ap (entries_where test) (map-append (entry_with month) first rest) ∙ filter-append (λ (e : Entry). test e.due.key.employee) (new first) (new rest))

pub filings_joined : FilingsAreJoined
filings_joined rows month old cut first rest a b few =
    let dues = a.dues ++ b.dues in
    let made : Filings = record { entries = old.entries ++ map (entry_with month) dues; last = Some month } in
    let before = in_first cut rows old.entries month a.dues b.dues a.owed b.owed in
    let behind = in_rest cut rows old.entries month a.dues b.dues a.owed b.owed in
    let size = length-append old.entries (map (entry_with month) dues) in
    let mapped = length-map dues (entry_with month) in
    let both = length-append a.dues b.dues in (
      (made, first.1 + rest.1),
      record {
        allowed = record { later = a.allowed.later; closed = all_closed month (is_before cut) rows a.allowed.closed b.allowed.closed };
        dues = dues;
        owed = joined cut rows old.entries month a.dues b.dues a.owed b.owed;
        entries = refl;
        last = refl;
        counted = ap₂ (λ x y. x + y) a.counted b.counted ∙ sym both;
        few = omega (arith, size, mapped, both, few, a.counted, b.counted);
      },
      refl,
      record {
        before = filings_same (filings_where (is_before cut) made) first.0
            (in_parts (is_before cut) month old.entries a.dues b.dues
            ∙ ap₂ (λ x y. entries_where (is_before cut) old.entries ++ (x ++ y)) (all_kept (is_before cut) month a.dues before) (none_kept (is_before cut) month b.dues (λ d m. not-true (is_before cut d.key.employee) (behind d m)))
            ∙ ap (λ l. entries_where (is_before cut) old.entries ++ l) (append-nil (map (entry_with month) a.dues))
            ∙ sym a.entries)
            (sym a.last);
        from = filings_same (filings_where (is_from cut) made) rest.0
            (in_parts (is_from cut) month old.entries a.dues b.dues
            ∙ ap₂ (λ x y. entries_where (is_from cut) old.entries ++ (x ++ y)) (none_kept (is_from cut) month a.dues (λ d m. not_from_true (is_before cut d.key.employee) (before d m))) (all_kept (is_from cut) month b.dues behind)
            ∙ sym b.entries)
            (sym b.last);
        count = refl;
      },
    )
