-- What the rows of a trial tell is so in both books, and a run or an output of which they tell nothing stays.
use Rattle.std.proofs.Common.{◌≡◌, ◌≢◌, ℕ, inl, inr, List, [], ◌∷◌, ◌++◌, map, Bool, true, false, if◌then◌else◌, Option, Some, None, option_map, refl, sym, ap, subst, ◌∙◌}
use Rattle.std.specs.List.{AllByRecursion, cons_option, filter_map, flat_map}
use Rattle.std.specs.Option.{option_map_or}
use Rattle.std.proofs.lemmas.Bool.{false≢true}
use Rattle.scaled_decimal.specs.Decimals.{Decimal}
use Rattle.rising_lists.specs.Keyed.{at_key}
use Rattle.rising_lists.proofs.Laws.{all_in, found_in, none_some, some_same}
use Rattle.payroll_records.specs.declared.record.Key.{Key}
use Rattle.payroll_records.specs.declared.values.NamedValue.{NamedValue}
use Rattle.payroll_records.specs.NamedValues.{name_cmp, name_of}
use Rattle.payroll_records.specs.Orders.{key_cmp}
use Rattle.payroll_records.proofs.Laws.{key_same}
use Rattle.carry_bindings.specs.Carrying.{named}
use Rattle.book_year.specs.declared.outcome.State.{State}
use Rattle.book_year.proofs.Laws.{decimal_decides}
use Rattle.recalc_engine.specs.BookLaws.{row_key}
use Rattle.recalc_engine.specs.Contents.{Contents}
use Rattle.recalc_engine.specs.MonthRows.{KeyedRow, month_rows}
use Rattle.what_if.specs.declared.trial.TrialRow.{TrialRow}
use Rattle.what_if.specs.declared.trial.TrialRow.TheVariants.{Changed, Value}
use Rattle.what_if.specs.Changes.{changes_at, changes_between, in_order, row_state, run_changes, same_amount, same_state, shown_state, state_of, state_outputs, value_row, value_rows}
use Rattle.what_if.specs.TrialLaws.{IsUnnamed, NamedRunsChange, RowsTellBoth, TellsBoth, TellsValue, UnnamedRunsStay, UntoldValuesStay, outputs_at, run_of}
use Rattle.what_if.specs.Trials.{book_with}
use Rattle.what_if.proofs.ChangeLemmas.{changed_rows}
use Rattle.what_if.proofs.KeyLemmas.{IsInBothOrNone, in_both_or_none}
use Rattle.what_if.proofs.StateLemmas.{state_one, state_own}
use Rattle.what_if.proofs.ValueLemmas.{row_name, rows_at}

-- ---- two amounts

amount_one : (was is : Option Decimal) → same_amount was is ≡ true → was ≡ is
amount_one None None e = refl
amount_one None (Some d) e = absurd (false≢true e)
amount_one (Some d) None e = absurd (false≢true e)
amount_one (Some c) (Some d) e = ap (λ x. Some x) ((decimal_decides c d).0 e)

amount_own : (o : Option Decimal) → same_amount o o ≡ true
amount_own None = refl
amount_own (Some d) = (decimal_decides d d).1 refl

amounts_differ : (was is : Option Decimal) → same_amount was is ≡ false → was ≢ is
amounts_differ was is e same = false≢true (sym e ∙ ap (same_amount was) (sym same) ∙ amount_own was)

-- ---- what holds of all rows of a run

module _ (P : TrialRow → Type 0) where
  all_parts : (xs ys : List TrialRow) → AllByRecursion P (xs ++ ys) → AllByRecursion P xs × AllByRecursion P ys
  all_parts [] ys h = (tt, h)
  all_parts (x ∷ xs) ys h = let rest = all_parts xs ys h.1 in ((h.0, rest.0), rest.1)

  all_both : (xs ys : List TrialRow) → AllByRecursion P xs → AllByRecursion P ys → AllByRecursion P (xs ++ ys)
  all_both [] ys h g = g
  all_both (x ∷ xs) ys h g = (h.0, all_both xs ys h.1 g)

  module _ (k : Key) (before after : List NamedValue) (each : (name : List ℕ) →
      same_amount (named name before) (named name after) ≡ false →
      P (Value k name (named name before) (named name after))) where
    all_values : (names : List (List ℕ)) → AllByRecursion P (filter_map (value_row k before after) names)
    all_values [] = tt
    all_values (name ∷ names) = by (same_amount (named name before) (named name after)) refl (all_values names)
      where
        by : (t : Bool) → same_amount (named name before) (named name after) ≡ t →
            AllByRecursion P (filter_map (value_row k before after) names) →
            AllByRecursion P
            (cons_option (if t then None else Some (Value k name (named name before) (named name after)))
            (filter_map (value_row k before after) names))
        by true e rest = rest
        by false e rest = (each name e, rest)

    all_value_rows : AllByRecursion P (value_rows k before after)
    all_value_rows = all_values (in_order (map name_of (before ++ after)))

-- ---- what holds of the rows of two books

module _ (P : TrialRow → Type 0) (old new : Contents) where
  module _ (one : (k : Key) (b a : State) → state_of old k ≡ Some b → state_of new k ≡ Some a →
      AllByRecursion P (run_changes k b a)) where
    all_at : (k : Key) → AllByRecursion P (changes_at old new k)
    all_at k = by (state_of old k) (state_of new k) refl refl
      where
        by : (b a : Option State) → state_of old k ≡ b → state_of new k ≡ a →
            AllByRecursion P (option_map_or (λ before. option_map_or (run_changes k before) a []) b [])
        by None a f g = tt
        by (Some b) None f g = tt
        by (Some b) (Some a) f g = one k b a f g

    all_rows : (rows : List KeyedRow) → AllByRecursion P (flat_map (λ row. changes_at old new (row_key row)) rows)
    all_rows [] = tt
    all_rows (row ∷ rows) =
        all_both P (changes_at old new row.key) (flat_map (λ r. changes_at old new (row_key r)) rows)
        (all_at row.key) (all_rows rows)

  -- so of the rows of each run
  each_part : (rows : List KeyedRow) → AllByRecursion P (flat_map (λ row. changes_at old new (row_key row)) rows) →
      AllByRecursion (λ row. AllByRecursion P (changes_at old new (row_key row))) rows
  each_part [] h = tt
  each_part (row ∷ rows) h =
      let parts = all_parts P (changes_at old new row.key) (flat_map (λ r. changes_at old new (row_key r)) rows) h in
      (parts.0, each_part rows parts.1)

  -- and of those of a run that is in both books
  of_run : AllByRecursion P (changes_between old new) → (k : Key) (b a : State) → state_of old k ≡ Some b →
      state_of new k ≡ Some a → AllByRecursion P (run_changes k b a)
  of_run h k b a was is = by (at_key key_cmp row_key (month_rows old) k) refl
    where
      rows_at_key : AllByRecursion P (changes_at old new k) → AllByRecursion P (run_changes k b a)
      rows_at_key g = subst (λ o. AllByRecursion P (option_map_or (run_changes k b) o [])) is
          (subst (λ o. AllByRecursion P (option_map_or (λ x. option_map_or (run_changes k x) (state_of new k) []) o []))
          was g)

      by : (o : Option KeyedRow) → at_key key_cmp row_key (month_rows old) k ≡ o →
          AllByRecursion P (run_changes k b a)
      by None e = absurd (none_some b (sym (ap (option_map row_state) e) ∙ was))
      by (Some row) e =
          let found = found_in key_cmp row_key (month_rows old) k row e in
          rows_at_key (subst (λ x. AllByRecursion P (changes_at old new x)) (key_same row.key k found.1)
          (all_in (λ r. AllByRecursion P (changes_at old new (row_key r))) (month_rows old) row
          (each_part (month_rows old) h) found.0))

-- ---- a run that a row names changes

pub named_change : NamedRunsChange
named_change book e =
    all_rows (λ row. state_of new (run_of row) ≢ state_of book (run_of row)) book new one (month_rows book)
  where
    new : Contents
    new = book_with book e

    one : (k : Key) (b a : State) → state_of book k ≡ Some b → state_of new k ≡ Some a →
        AllByRecursion (λ row. state_of new (run_of row) ≢ state_of book (run_of row)) (run_changes k b a)
    one k b a was is = by (same_state b a) refl
      where
        changed : same_state b a ≡ false → state_of new k ≢ state_of book k
        changed t same =
            let equal : a ≡ b = some_same a b (sym is ∙ same ∙ was) in
            false≢true (sym t ∙ ap (same_state b) equal ∙ state_own b)

        by : (t : Bool) → same_state b a ≡ t →
            AllByRecursion (λ row. state_of new (run_of row) ≢ state_of book (run_of row))
            (if t then [] else changed_rows k b a)
        by true t = tt
        by false t = (
          changed t,
          all_value_rows (λ row. state_of new (run_of row) ≢ state_of book (run_of row)) k (state_outputs b) (state_outputs a)
              (λ name differs. changed t),
        )

-- ---- what a row tells is so in both books

pub rows_tell : RowsTellBoth
rows_tell book e = all_rows (TellsBoth book new) book new one (month_rows book)
  where
    new : Contents
    new = book_with book e

    one : (k : Key) (b a : State) → state_of book k ≡ Some b → state_of new k ≡ Some a →
        AllByRecursion (TellsBoth book new) (run_changes k b a)
    one k b a was is = by (same_state b a) refl
      where
        shown : TellsBoth book new (Changed k (shown_state b) (shown_state a))
        shown = (ap (option_map shown_state) was, ap (option_map shown_state) is)

        amount : (name : List ℕ) → same_amount (named name (state_outputs b)) (named name (state_outputs a)) ≡ false →
            TellsBoth book new (Value k name (named name (state_outputs b)) (named name (state_outputs a)))
        amount name differs = (
          sym (ap (λ o. named name (option_map_or state_outputs o [])) was),
          sym (ap (λ o. named name (option_map_or state_outputs o [])) is),
          amounts_differ (named name (state_outputs b)) (named name (state_outputs a)) differs,
        )

        by : (t : Bool) → same_state b a ≡ t →
            AllByRecursion (TellsBoth book new) (if t then [] else changed_rows k b a)
        by true t = tt
        by false t = (shown, all_value_rows (TellsBoth book new) k (state_outputs b) (state_outputs a) amount)

-- ---- a run that no row names stays

-- a run without a row of its own has one state
unnamed_run : (k : Key) (b a : State) → AllByRecursion (λ row. run_of row ≡ k → ⊥) (run_changes k b a) → a ≡ b
unnamed_run k b a h = by (same_state b a) refl h
  where
    by : (t : Bool) → same_state b a ≡ t → IsUnnamed (if t then [] else changed_rows k b a) k → a ≡ b
    by true e g = sym (state_one b a e)
    by false e g = absurd (g.0 refl)

pub unnamed_stay : UnnamedRunsStay
unnamed_stay book e k h = by (in_both_or_none book e k)
  where
    by : IsInBothOrNone book (book_with book e) k → state_of (book_with book e) k ≡ state_of book k
    by (inl none) = none.1 ∙ sym none.0
    by (inr run) =
        let rows = of_run (λ row. run_of row ≡ k → ⊥) book (book_with book e) h k run.was run.is run.before run.after in
        run.after ∙ ap (λ s. Some s) (unnamed_run k run.was run.is rows) ∙ sym run.before

-- ---- an output of which no row tells stays

module _ (k : Key) (name : List ℕ) where
  abbrev IsUntold : TrialRow → Type 0
  IsUntold row = TellsValue k name row → ⊥

  -- a value of which none of the rows tells is the same in both
  untold_amount : (was is : List NamedValue) → AllByRecursion IsUntold (value_rows k was is) →
      named name is ≡ named name was
  untold_amount was is h = by (same_amount (named name was) (named name is)) refl
    where
      row : TrialRow
      row = Value k name (named name was) (named name is)

      by : (t : Bool) → same_amount (named name was) (named name is) ≡ t → named name is ≡ named name was
      by true t = sym (amount_one (named name was) (named name is) t)
      by false t =
          let there : at_key name_cmp row_name (value_rows k was is) name ≡ Some row =
          rows_at k was is name ∙ ap (λ t. if t then None else Some row) t in
          absurd (all_in IsUntold (value_rows k was is) row h
          (found_in name_cmp row_name (value_rows k was is) name row there).0 (refl, refl))

  untold_run : (b a : State) → AllByRecursion IsUntold (run_changes k b a) →
      named name (state_outputs a) ≡ named name (state_outputs b)
  untold_run b a h = by (same_state b a) refl h
    where
      by : (t : Bool) → same_state b a ≡ t → AllByRecursion IsUntold (if t then [] else changed_rows k b a) →
          named name (state_outputs a) ≡ named name (state_outputs b)
      by true t g = sym (ap (λ s. named name (state_outputs s)) (state_one b a t))
      by false t g = untold_amount (state_outputs b) (state_outputs a) g.1

pub untold_stay : UntoldValuesStay
untold_stay book e k name h = by (in_both_or_none book e k)
  where
    shown : Option State → Option Decimal
    shown o = named name (option_map_or state_outputs o [])

    by : IsInBothOrNone book (book_with book e) k →
        named name (outputs_at (book_with book e) k) ≡ named name (outputs_at book k)
    by (inl none) = ap shown none.1 ∙ sym (ap shown none.0)
    by (inr run) =
        let rows = of_run (IsUntold k name) book (book_with book e) h k run.was run.is run.before run.after in
        ap shown run.after ∙ untold_run k name run.was run.is rows ∙ sym (ap shown run.before)
