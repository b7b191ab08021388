-- What differs between two books: run by run, its state in the one and in the other.
use Rattle.std.specs.Prelude.{ℕ, List, [], ◌∷◌, ◌++◌, Option, Some, None, Bool, true, false, ◌&&◌, if◌then◌else◌, map, option_map}
use Rattle.std.specs.List.{filter_map, flat_map}
use Rattle.std.specs.Option.{option_map_or}
use Rattle.std.specs.Ordering.{is_eq}
use Rattle.std.specs.Str.{bytes_eq}
use Rattle.std.specs.Cmp.Lexicographic.{pointwise}
use Rattle.scaled_decimal.specs.Decimals.{Decimal}
use Rattle.rising_lists.specs.Keyed.{at_key, put}
use Rattle.payroll_records.specs.declared.record.Key.{Key}
use Rattle.payroll_records.specs.declared.values.NamedValue.{NamedValue}
use Rattle.payroll_records.specs.NamedValues.{name_cmp, name_of}
use Rattle.payroll_records.specs.Orders.{day_cmp, key_cmp}
use Rattle.carry_bindings.specs.Carrying.{named}
use Rattle.carry_bindings.specs.declared.filling.Blocked.{Blocked}
use Rattle.carry_bindings.specs.declared.filling.Blocked.TheVariants as blocked
use Rattle.book_year.specs.declared.outcome.State.{State}
use Rattle.book_year.specs.declared.outcome.State.TheVariants as state
use Rattle.book_year.specs.Jobs.{same_decimal}
use Rattle.recalc_engine.specs.BookLaws.{row_key}
use Rattle.recalc_engine.specs.Contents.{Contents}
use Rattle.recalc_engine.specs.MonthRows.{KeyedRow, month_rows}
use Rattle.what_if.specs.declared.trial.Shown.{Shown}
use Rattle.what_if.specs.declared.trial.Shown.TheVariants as shown
use Rattle.what_if.specs.declared.trial.TrialRow.{TrialRow}
use Rattle.what_if.specs.declared.trial.TrialRow.TheVariants.{Changed, Value}

-- ---- the same state

-- two causes are the same, with the same day or the same name
abbrev pub same_cause : Blocked → Blocked → Bool
same_cause (blocked.Waits d) (blocked.Waits e) = is_eq (day_cmp d e)
same_cause (blocked.Unknown m) (blocked.Unknown n) = bytes_eq m n
same_cause (blocked.Missing m) (blocked.Missing n) = bytes_eq m n
same_cause (blocked.Range m) (blocked.Range n) = bytes_eq m n
same_cause _ _ = false

-- two outputs have the same name, number and scale
abbrev pub same_output : NamedValue → NamedValue → Bool
same_output v w = bytes_eq v.name w.name && same_decimal v.value w.value

-- two states are the same: no plan in both, the same cause, or the same outputs in the same order
abbrev pub same_state : State → State → Bool
same_state state.NoPlan state.NoPlan = true
same_state (state.Blocked b) (state.Blocked c) = same_cause b c
same_state (state.Done vs) (state.Done ws) = pointwise same_output vs ws
same_state _ _ = false

-- ---- what is shown

-- a state without its values
abbrev pub shown_cause : Blocked → Shown
shown_cause (blocked.Waits d) = shown.Waits
shown_cause (blocked.Unknown n) = shown.Unknown
shown_cause (blocked.Missing n) = shown.Missing
shown_cause (blocked.Range n) = shown.Range

-- the state of a run as a trial shows it
abbrev pub shown_state : State → Shown
shown_state state.NoPlan = shown.NoPlan
shown_state (state.Blocked b) = shown_cause b
shown_state (state.Done vs) = shown.Done

-- the outputs of a state, none where it has none
abbrev pub state_outputs : State → List NamedValue
state_outputs (state.Done vs) = vs
state_outputs _ = []

-- ---- the rows

-- in neither state, or in both with the same number and scale
abbrev pub same_amount : Option Decimal → Option Decimal → Bool
same_amount None None = true
same_amount (Some a) (Some b) = same_decimal a b
same_amount _ _ = false

-- the row of a name, where its value among the outputs differs
abbrev pub value_row : Key → List NamedValue → List NamedValue → List ℕ → Option TrialRow
value_row k before after name =
    let was = named name before in
    let is = named name after in
    if same_amount was is then None else Some (Value k name was is)

-- names in the order of their bytes, each once
abbrev pub in_order : List (List ℕ) → List (List ℕ)
in_order [] = []
in_order (n ∷ ns) = put name_cmp (λ m. m) n (in_order ns)

-- the rows of the outputs of a run, in order of their names
abbrev pub value_rows : Key → List NamedValue → List NamedValue → List TrialRow
value_rows k before after =
    filter_map (value_row k before after) (in_order (map name_of (before ++ after)))

-- the rows of a run: none where its state stays, else its own and those of its outputs
abbrev pub run_changes : Key → State → State → List TrialRow
run_changes k before after =
    if same_state before after then []
    else Changed k (shown_state before) (shown_state after)
    ∷ value_rows k (state_outputs before) (state_outputs after)

-- ---- of a book

-- the state of the run at a key
abbrev pub row_state : KeyedRow → State
row_state row = row.state

-- the state of the run at a key, if there is one
abbrev pub state_of : Contents → Key → Option State
state_of book k = option_map row_state (at_key key_cmp row_key (month_rows book) k)

-- the rows of the run at a key, by its states in the two books
abbrev pub changes_at : Contents → Contents → Key → List TrialRow
changes_at old new k =
    option_map_or (λ before. option_map_or (run_changes k before) (state_of new k) [])
    (state_of old k) []

-- the rows of all runs of a book, in order of employee and day
abbrev pub changes_between : Contents → Contents → List TrialRow
changes_between old new = flat_map (λ row. changes_at old new (row_key row)) (month_rows old)
