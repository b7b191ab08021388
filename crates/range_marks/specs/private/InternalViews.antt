-- The ranges of internals, which are joined with what one statement after the other puts.
use Rattle.std.specs.Prelude.{◌≡◌, ◌⊎◌, ◌↔◌, ℕ, List, length, Option, Some, IsSomeAnd, slice_get}
use Rattle.std.specs.BTreeMap.{get}
use Rattle.pap_tree.specs.Declarations.{Declaration}
use Rattle.pap_tree.specs.Flowchart.{Flowchart}
use Rattle.interval_analysis.specs.declared.value_range.ValueRange.{ValueRange}
use Rattle.interval_analysis.specs.Surveys.{StatementPlace, place_cmp, IsLeastRange}
use Rattle.statement_list.specs.declared.statement.Form.{Form}
use Rattle.statement_list.specs.declared.statement.Form.TheVariants.{Set}
use Rattle.range_marks.specs.RangeMarks.{WalkFindings}

-- an internal of the name has this number, where one has the name
abbrev pub IsInternal : Flowchart → List ℕ → Option ℕ → Type 0
IsInternal f x o =
    (i : ℕ) (d : Declaration) → slice_get f.internals i ≡ Some d → (d.name ≡ x) ↔ (o ≡ Some i)

-- the range of each variable is now the least around that before and all that is put into it
pub record Joins (ds : List Declaration) (Puts : List ℕ → ValueRange → Type 0) (was now : List ValueRange) : Type 0 where
  pub count : length now ≡ length was
  pub each : (i : ℕ) (d : Declaration) (k : ValueRange) → slice_get ds i ≡ Some d → slice_get was i ≡ Some k
      → IsSomeAnd (slice_get now i) (IsLeastRange (λ r. (k ≡ r) ⊎ Puts d.name r))

-- what is put into one variable, where a range is known of it
abbrev pub PutsFound : List ℕ → Option ValueRange → List ℕ → ValueRange → Type 0
PutsFound target found x r = (x ≡ target) × (found ≡ Some r)

-- what a statement of this form at a place puts
abbrev pub PutsHere : WalkFindings → StatementPlace → Form → List ℕ → ValueRange → Type 0
PutsHere w p form x r = (form ≡ Set x) × (get place_cmp w.values p ≡ Some r)
