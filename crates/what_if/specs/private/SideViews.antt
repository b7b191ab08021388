-- The outputs of a run in two states, side by side in order of their names.
use Rattle.std.specs.Prelude.{◌≡◌, ℕ, List, [], ◌∷◌, Option, Some, None, if◌then◌else◌, map}
use Rattle.std.specs.declared.cmp.Ordering.{Ordering}
use Rattle.std.specs.declared.cmp.Ordering.TheVariants.{Less, Equal, Greater}
use Rattle.rising_lists.specs.Keyed.{at_key, IsRising}
use Rattle.payroll_records.specs.declared.record.Key.{Key}
use Rattle.payroll_records.specs.declared.values.NamedValue.{NamedValue}
use Rattle.payroll_records.specs.NamedValues.{name_cmp, name_of}
use Rattle.what_if.specs.declared.sides.Side.{Side}
use Rattle.what_if.specs.declared.trial.TrialRow.{TrialRow}
use Rattle.what_if.specs.declared.trial.TrialRow.TheVariants.{Value}
use Rattle.what_if.specs.Changes.{same_amount}

-- an output of the first state alone, of the second alone, and of both
abbrev pub left_only : NamedValue → Side
left_only v = record { name = v.name; before = Some v.value; after = None }

abbrev pub right_only : NamedValue → Side
right_only v = record { name = v.name; before = None; after = Some v.value }

abbrev pub both_sides : NamedValue → NamedValue → Side
both_sides v w = record { name = v.name; before = Some v.value; after = Some w.value }

-- one step of the merge, with what the two lists give after it
abbrev pub sides_by : Ordering → NamedValue → NamedValue → List Side → List Side → List Side
    → List Side
sides_by Less v w after_left after_both after_right = left_only v ∷ after_left
sides_by Equal v w after_left after_both after_right = both_sides v w ∷ after_both
sides_by Greater v w after_left after_both after_right = right_only w ∷ after_right

-- one output more before the rest of the first state's
abbrev pub sides_with : NamedValue → (List NamedValue → List Side) → List NamedValue → List Side
sides_with v more [] = left_only v ∷ more []
sides_with v more (w ∷ ws) =
    sides_by (name_cmp v.name w.name) v w (more (w ∷ ws)) (more ws) (sides_with v more ws)

-- two lists in order, side by side
abbrev pub sides_of : List NamedValue → List NamedValue → List Side
sides_of [] ws = map right_only ws
sides_of (v ∷ vs) ws = sides_with v (sides_of vs) ws

-- the row of an output, where its value differs
abbrev pub side_row : Key → Side → Option TrialRow
side_row k s =
    if same_amount s.before s.after then None else Some (Value k s.name s.before s.after)

-- the outputs in order of their names
pub record AreOrdered (outputs list : List NamedValue) : Type 0 where
  pub rising : IsRising name_cmp name_of list
  pub at : (name : List ℕ)
      → at_key name_cmp name_of list name ≡ at_key name_cmp name_of outputs name
