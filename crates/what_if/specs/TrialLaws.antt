-- What follows from a trial.
use Rattle.std.specs.Prelude.{◌≡◌, ◌≢◌, ◌↔◌, ℕ, List, [], Some, IsTrue, option_map}
use Rattle.std.specs.List.{AllByRecursion}
use Rattle.std.specs.Option.{option_map_or}
use Rattle.payroll_records.specs.declared.record.Key.{Key}
use Rattle.payroll_records.specs.declared.values.NamedValue.{NamedValue}
use Rattle.plan_calendar.specs.Picking.{Entry}
use Rattle.carry_bindings.specs.Carrying.{named}
use Rattle.book_year.specs.Accepted.{Accepted}
use Rattle.book_year.specs.declared.outcome.State.{State}
use Rattle.recalc_engine.specs.Contents.{Contents}
use Rattle.what_if.specs.declared.trial.TrialRow.{TrialRow}
use Rattle.what_if.specs.declared.trial.TrialRow.TheVariants.{Changed, Value}
use Rattle.what_if.specs.Changes.{state_of, state_outputs, same_state, shown_state}
use Rattle.what_if.specs.Trials.{book_with, trial_of}

-- the test of two states is true exactly where they are the same
abbrev pub SameStatesAreOne : Type 0
SameStatesAreOne = (a b : State) → IsTrue (same_state a b) ↔ (a ≡ b)

-- the run of a row
abbrev pub run_of : TrialRow → Key
run_of (Changed k before after) = k
run_of (Value k name before after) = k

-- no row is of this run
abbrev pub IsUnnamed : List TrialRow → Key → Type 0
IsUnnamed rows k = AllByRecursion (λ row. run_of row ≡ k → ⊥) rows

-- ---- runs

-- a run that no row of the trial names has the same state once the plan is put
abbrev pub UnnamedRunsStay : Type 0
UnnamedRunsStay =
    (book : Contents) (e : Entry Accepted) (k : Key)
    → IsUnnamed (trial_of book e).rows k → state_of (book_with book e) k ≡ state_of book k

-- a run that a row of the trial names has another state once the plan is put
abbrev pub NamedRunsChange : Type 0
NamedRunsChange =
    (book : Contents) (e : Entry Accepted)
    → AllByRecursion
    (λ row. state_of (book_with book e) (run_of row) ≢ state_of book (run_of row)) (trial_of book e).rows

-- ---- outputs

-- the outputs of a key's run, none where it has none
abbrev pub outputs_at : Contents → Key → List NamedValue
outputs_at book k = option_map_or state_outputs (state_of book k) []

-- what the row tells is so before and after: the state of its run, or the value of an output, which differs
abbrev pub TellsBoth : Contents → Contents → TrialRow → Type 0
TellsBoth old new (Changed k before after) =
    (option_map shown_state (state_of old k) ≡ Some before) × (option_map shown_state (state_of new k) ≡ Some after)
TellsBoth old new (Value k name before after) =
    (before ≡ named name (outputs_at old k)) × (after ≡ named name (outputs_at new k)) × (before ≢ after)

-- what each row of a trial tells is so before and after
abbrev pub RowsTellBoth : Type 0
RowsTellBoth =
    (book : Contents) (e : Entry Accepted)
    → AllByRecursion (TellsBoth book (book_with book e)) (trial_of book e).rows

-- the row tells the value of this output of this run
abbrev pub TellsValue : Key → List ℕ → TrialRow → Type 0
TellsValue k name (Changed key before after) = ⊥
TellsValue k name (Value key output before after) = (key ≡ k) × (output ≡ name)

-- an output of which no row of the trial tells has the same value once the plan is put, or none as before
abbrev pub UntoldValuesStay : Type 0
UntoldValuesStay =
    (book : Contents) (e : Entry Accepted) (k : Key) (name : List ℕ)
    → AllByRecursion (λ row. TellsValue k name row → ⊥) (trial_of book e).rows
    → named name (outputs_at (book_with book e) k) ≡ named name (outputs_at book k)
