-- The range of an internal's value over the whole run: the least around its first value and all that is put into it.
use Rattle.std.specs.Prelude.{◌≡◌, ◌⊎◌, ℕ, List, Some, slice_get}
use Rattle.std.specs.List.{AllZip}
use Rattle.std.specs.BTreeMap.{get}
use Rattle.pap_tree.specs.Declarations.{Declaration}
use Rattle.pap_tree.specs.Flowchart.{Flowchart}
use Rattle.pap_types.specs.Scopes.{first_value}
use Rattle.interval_walk.specs.Ranges.{single}
use Rattle.interval_analysis.specs.declared.value_range.ValueRange.{ValueRange}
use Rattle.interval_analysis.specs.Surveys.{place_cmp, value_range, IsLeastRange}
use Rattle.statement_list.specs.declared.statement.Form.TheVariants.{Set}
use Rattle.statement_list.specs.Statements.{Listed, listed_methods}
use Rattle.range_marks.specs.RangeTexts.{ends_text}
use Rattle.range_marks.specs.RangeMarks.{WalkFindings, method_name_at}

-- the range of what a variable begins with
abbrev pub begun_range : Declaration → ValueRange
begun_range d = value_range (single (first_value d))

-- one of a method's statements is an EVAL that assigns the variable, and this is the range of what it puts
pub record AssignsIn (w : WalkFindings) (method : List ℕ) (statements : List Listed) (x : List ℕ) (r : ValueRange)
    : Type 0 where
  pub number : ℕ
  pub statement : Listed
  pub there : slice_get statements number ≡ Some statement
  pub assigns : statement.form ≡ Set x
  pub puts : get place_cmp w.values (method, number) ≡ Some r

-- an EVAL of the flowchart assigns the variable, and this is the range of what it puts; MAIN is method 0
pub record IsAssigned (f : Flowchart) (w : WalkFindings) (x : List ℕ) (r : ValueRange) : Type 0 where
  pub method : ℕ
  pub statements : List Listed
  pub there : slice_get (listed_methods f) method ≡ Some statements
  pub assigns : AssignsIn w (method_name_at f method) statements x r

-- a range that a variable has in the run: that of what it begins with, or of what an EVAL puts into it
abbrev pub HasRange : Flowchart → WalkFindings → Declaration → ValueRange → Type 0
HasRange f w d r = (begun_range d ≡ r) ⊎ IsAssigned f w d.name r

-- the text of the least range around all that a variable has in the run
pub record IsWholeRange (f : Flowchart) (w : WalkFindings) (d : Declaration) (text : List ℕ) : Type 0 where
  pub range : ValueRange
  pub least : IsLeastRange (HasRange f w d) range
  pub is : text ≡ ends_text range

-- such a text for each internal, in declared order
abbrev pub AreInternalRanges : Flowchart → WalkFindings → List (List ℕ) → Type 0
AreInternalRanges f w texts = AllZip (IsWholeRange f w) f.internals texts
