-- A run is in a book and in the book with the plan, or in neither; the rows run by run are those of the two lists side by side.
use Rattle.std.proofs.Common.{◌≡◌, ◌⊎◌, inl, inr, List, [], ◌∷◌, ◌++◌, map, length, if◌then◌else◌, Option, Some, None, option_map, refl, sym, ap, ap₂, subst, ◌∙◌, arith}
use Rattle.std.specs.List.{AllByRecursion, flat_map}
use Rattle.std.specs.Option.{option_map_or}
use Rattle.std.specs.declared.cmp.Ordering.{Ordering}
use Rattle.std.specs.declared.cmp.Ordering.TheVariants.{Less, Equal, Greater}
use Rattle.std.specs.Ordering.{is_eq}
use Rattle.rising_lists.specs.Keyed.{at_key, IsRising}
use Rattle.payroll_records.specs.declared.record.Key.{Key}
use Rattle.payroll_records.specs.Orders.{key_cmp}
use Rattle.payroll_records.proofs.Laws.{key_total}
use Rattle.plan_calendar.specs.Picking.{Entry, pick, with_entry}
use Rattle.book_year.specs.Accepted.{Accepted}
use Rattle.book_year.specs.declared.outcome.State.{State}
use Rattle.book_edits.proofs.Laws.{found_each, map_rising, rising_map}
use Rattle.recalc_engine.specs.BookLaws.{IsBook, row_key}
use Rattle.recalc_engine.specs.Contents.{Contents}
use Rattle.recalc_engine.specs.MonthRows.{KeyedRow, month_rows}
use Rattle.recalc_engine.proofs.Laws.{book_rows_rise}
use Rattle.what_if.specs.Changes.{changes_at, changes_between, row_state, run_changes, state_of}
use Rattle.what_if.specs.Trials.{book_with}
use Rattle.what_if.specs.private.YearViews.{changes}
use Rattle.what_if.proofs.ChangeLemmas.{HaveKeys, all_keys, head_key, state_at, tail_keys}

-- ---- a run of two lists

-- a run with its states in two lists
pub record IsInBoth (bs ns : List KeyedRow) (k : Key) : Type 0 where
  pub was : State
  pub is : State
  pub before : state_at bs k ≡ Some was
  pub after : state_at ns k ≡ Some is

abbrev IsPaired : List KeyedRow → List KeyedRow → Key → Type 0
IsPaired bs ns k = ((state_at bs k ≡ None) × (state_at ns k ≡ None)) ⊎ IsInBoth bs ns k

abbrev first : Ordering → KeyedRow → List KeyedRow → Key → Option State
first o row more k = option_map row_state (if is_eq o then Some row else at_key key_cmp row_key more k)

further : (bs ns cs ms : List KeyedRow) (k : Key) → state_at cs k ≡ state_at bs k → state_at ms k ≡ state_at ns k →
    IsPaired bs ns k → IsPaired cs ms k
further bs ns cs ms k f g (inl none) = inl (f ∙ none.0, g ∙ none.1)
further bs ns cs ms k f g (inr p) =
    inr (record { was = p.was; is = p.is; before = f ∙ p.before; after = g ∙ p.after })

paired_at : (bs ns : List KeyedRow) (k : Key) → HaveKeys bs ns → IsPaired bs ns k
paired_at [] [] k e = inl (refl, refl)
paired_at [] (a ∷ ns) k e = absurd (omega (arith, ap length e))
paired_at (b ∷ bs) [] k e = absurd (omega (arith, ap length e))
paired_at (b ∷ bs) (a ∷ ns) k e =
    by (paired_at bs ns k (tail_keys b.key a.key (map row_key bs) (map row_key ns) e)) (key_cmp b.key k) refl
  where
    same : b.key ≡ a.key
    same = head_key b.key a.key (map row_key bs) (map row_key ns) e

    left : (o : Ordering) → key_cmp b.key k ≡ o → state_at (b ∷ bs) k ≡ first o b bs k
    left o t = ap (λ p. first p b bs k) t

    right : (o : Ordering) → key_cmp b.key k ≡ o → state_at (a ∷ ns) k ≡ first o a ns k
    right o t = ap (λ p. first p a ns k) (ap (λ x. key_cmp x k) (sym same) ∙ t)

    by : IsPaired bs ns k → (o : Ordering) → key_cmp b.key k ≡ o → IsPaired (b ∷ bs) (a ∷ ns) k
    by rest Less t = further bs ns (b ∷ bs) (a ∷ ns) k (left Less t) (right Less t) rest
    by rest Equal t =
        inr (record { was = b.state; is = a.state; before = left Equal t; after = right Equal t })
    by rest Greater t = further bs ns (b ∷ bs) (a ∷ ns) k (left Greater t) (right Greater t) rest

-- ---- a run of a book and of the book with the plan

abbrev pub IsInBothOrNone : Contents → Contents → Key → Type 0
IsInBothOrNone old new k =
    ((state_of old k ≡ None) × (state_of new k ≡ None)) ⊎ IsInBoth (month_rows old) (month_rows new) k

keys_stay : (book : Contents) (e : Entry Accepted) → HaveKeys (month_rows book) (month_rows (book_with book e))
keys_stay book e = all_keys (pick book.plans) (pick (with_entry e book.plans)) book.years

pub in_both_or_none : (book : Contents) (e : Entry Accepted) (k : Key) → IsInBothOrNone book (book_with book e) k
in_both_or_none book e k = paired_at (month_rows book) (month_rows (book_with book e)) k (keys_stay book e)

-- ---- run by run

-- each run of a list with rising keys stands at its key
states_found : (rows : List KeyedRow) → IsRising key_cmp row_key rows →
    AllByRecursion (λ row. state_at rows (row_key row) ≡ Some (row_state row)) rows
states_found rows rising = lift rows (found_each key_cmp key_total row_key rows rising)
  where
    lift : (some : List KeyedRow) → AllByRecursion (λ row. at_key key_cmp row_key rows (row_key row) ≡ Some row) some →
        AllByRecursion (λ row. state_at rows (row_key row) ≡ Some (row_state row)) some
    lift [] h = tt
    lift (row ∷ some) h = (ap (option_map row_state) h.0, lift some h.1)

same_keys_rise : (bs ns : List KeyedRow) → HaveKeys bs ns → IsRising key_cmp row_key bs → IsRising key_cmp row_key ns
same_keys_rise bs ns e rising =
    rising_map key_cmp (λ (k : Key). k) row_key ns
    (subst (IsRising key_cmp (λ (k : Key). k)) e (map_rising key_cmp (λ (k : Key). k) row_key bs rising))

module _ (old new : Contents) where
  at_states : (k : Key) (b a : State) → state_of old k ≡ Some b → state_of new k ≡ Some a →
      changes_at old new k ≡ run_changes k b a
  at_states k b a was is =
      ap (λ o. option_map_or (λ x. option_map_or (run_changes k x) (state_of new k) []) o []) was
      ∙ ap (λ o. option_map_or (run_changes k b) o []) is

  found_changes : (bs ns : List KeyedRow) → HaveKeys bs ns →
      AllByRecursion (λ row. state_of old (row_key row) ≡ Some (row_state row)) bs →
      AllByRecursion (λ row. state_of new (row_key row) ≡ Some (row_state row)) ns →
      flat_map (λ row. changes_at old new (row_key row)) bs ≡ changes bs ns
  found_changes [] ns e f g = refl
  found_changes (b ∷ bs) [] e f g = absurd (omega (arith, ap length e))
  found_changes (b ∷ bs) (a ∷ ns) e f g =
      let same = head_key b.key a.key (map row_key bs) (map row_key ns) e in
      let more = tail_keys b.key a.key (map row_key bs) (map row_key ns) e in
      ap₂ (λ s t. s ++ t) (at_states b.key b.state a.state f.0 (ap (state_of new) same ∙ g.0))
      (found_changes bs ns more f.1 g.1)

-- the rows run by run are those of the two lists side by side
pub by_key : (book : Contents) (e : Entry Accepted) → IsBook book →
    changes_between book (book_with book e) ≡ changes (month_rows book) (month_rows (book_with book e))
by_key book e is =
    let bs = month_rows book in
    let ns = month_rows (book_with book e) in
    let rise = book_rows_rise book is in
    found_changes book (book_with book e) bs ns (keys_stay book e) (states_found bs rise)
    (states_found ns (same_keys_rise bs ns (keys_stay book e) rise))
