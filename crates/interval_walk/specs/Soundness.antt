-- What the walk promises of the values that a run meets. Source: the soundness of an abstract interpretation: what it
-- answers holds of every run.
use Rattle.std.specs.Prelude.{◌≡◌, ℕ, ◌≤◌, ◌≤ℤ◌, ◌||◌, IsTrue, is_some, All, IfSome, true, false, List, [], ◌∷◌, Option, Some, None, Ok, ⊤}
use Rattle.scaled_decimal.specs.Decimals.{Decimal}
use Rattle.pap_tree.specs.Term.{Term}
use Rattle.pap_tree.specs.Flowchart.{Flowchart, Body}
use Rattle.pap_tree.specs.Scales.{KeepsScales}
use Rattle.limits_file.specs.declared.limits.Limits.{Limits}
use Rattle.limits_file.specs.Limits.{IsWithinBound}
use Rattle.pap_types.specs.Checks.{IsWellTyped}
use Rattle.pap_types.specs.Counts.{AreSmallTerms, IsWithinCounts}
use Rattle.pap_types.specs.Meaning.{IsSafeFor, outputs_in}
use Rattle.interval_walk.specs.Admission.{HaveLimits, AreAdmitted}
use Rattle.interval_walk.specs.Analysis.{start_ranges, range_calls_in, analysed}
use Rattle.interval_num.specs.Intervals.{Interval, Contains}
use Rattle.pap_types.specs.Scopes.{Scope, declared_as, scope_of}
use Rattle.pap_types.specs.Kinds.{kind_of}
use Rattle.pap_types.specs.Typing.{IsTypedTerm, IsTypedBody}
use Rattle.pap_types.specs.Operations.{is_zero}
use Rattle.pap_types.specs.Values.{Env, value}
use Rattle.pap_types.specs.Safety.{IsSafe}
use Rattle.interval_walk.specs.Ranges.{Ranges, range_named}
use Rattle.interval_walk.specs.Ranged.{ranged, tested}
use Rattle.interval_walk.specs.Walked.{walked}
use Rattle.interval_walk.specs.Shapes.{HasShape}
use Rattle.interval_walk.specs.Branches.{Branches}

-- each variable has its name and a value in its range
abbrev pub AreWithin : Ranges → Env → Type 0
AreWithin [] [] = ⊤
AreWithin (r ∷ rs) (v ∷ vs) = (r.name ≡ v.name) × Contains r.range v.value × AreWithin rs vs
AreWithin _ _ = ⊥

-- ranges of the variables that can be reached, in which their values lie
pub record AreReachedWithin (o : Option Ranges) (env : Env) : Type 0 where
  pub ranges : Ranges
  pub is : o ≡ Some ranges
  pub inside : AreWithin ranges env

module _ (scope : Scope) where
  -- every evaluated node of an expression is safe, and the value is defined and lies in the range
  pub record TermHolds (t : Term) (env : Env) (r : Interval) : Type 0 where
    pub safe : IsSafe scope t env
    pub gives : Decimal
    pub is : value scope t env ≡ Some gives
    pub inside : Contains r gives

  -- every evaluated node of a test is safe, and the branch that its value takes can be reached
  pub record TestHolds (t : Term) (env : Env) (br : Branches) : Type 0 where
    pub safe : IsSafe scope t env
    pub gives : Decimal
    pub is : value scope t env ≡ Some gives
    pub holds : is_zero gives ≡ false → AreReachedWithin br.holds env
    pub fails : is_zero gives ≡ true → AreReachedWithin br.fails env

-- ---- the whole

-- an output's value lies in its range and within the bound
pub record IsOutput (r : Interval) (d : Decimal) : Type 0 where
  pub inside : Contains r d
  pub bound : IsWithinBound d

-- one such value for each output, in declared order
abbrev pub AreOutputs : Ranges → List Decimal → Type 0
AreOutputs [] [] = ⊤
AreOutputs (r ∷ rs) (d ∷ ds) = IsOutput r.range d × AreOutputs rs ds
AreOutputs _ _ = ⊥

-- inputs are safe for a plan, and its outputs lie in these ranges
pub record RunHolds (f : Flowchart) (ranges : Ranges) (inputs : List Decimal) : Type 0 where
  pub safe : IsSafeFor f inputs
  pub outputs : AreOutputs ranges (outputs_in f safe.ends)

-- where the walk of a well-typed plan passes, every list of admitted inputs is safe for the plan, and its outputs lie
-- in their ranges
abbrev pub AnalysisIsSound : Type 0
AnalysisIsSound =
    (f : Flowchart) (limits : Limits) (ranges : Ranges) → IsWellTyped f → IsWithinCounts f
    → HaveLimits f limits → analysed f limits ≡ Ok ranges
    → (inputs : List Decimal) → AreAdmitted f limits inputs → RunHolds f ranges inputs

-- ---- tests

-- some decimal may lie in a range
pub record IsFilled (a : Interval) : Type 0 where
  pub order : a.lo ≤ℤ a.hi
  pub scales : a.s_lo ≤ a.s_hi

-- the ranges of variables, none of which is empty
pub record AreFilled (scope : Scope) (rs : Ranges) : Type 0 where
  pub ranges : All (λ v. IsFilled v.range) rs
  pub variables : (x : List ℕ) → declared_as scope.variables x ≡ None → range_named rs x ≡ None

-- a test that the walk passes has a branch that can be reached: some values of the variables lie in their ranges, and the
-- test of these holds or fails
abbrev pub SomeBranchIsReached : Type 0
SomeBranchIsReached =
    (f : Flowchart) (t : Term) (at : ℕ) (rs : Ranges) (br : Branches) → IsWellTyped f
    → IsTypedTerm (scope_of f) t → KeepsScales t → AreFilled (scope_of f) rs
    → tested (scope_of f) t at rs ≡ Ok br
    → IsTrue (is_some br.holds || is_some br.fails)

-- no range is empty in a branch that can be reached
pub record AreBranchesFilled (scope : Scope) (br : Branches) : Type 0 where
  pub holds : IfSome br.holds (AreFilled scope)
  pub fails : IfSome br.fails (AreFilled scope)

-- no range of a variable gets empty in the walk of this plan
pub record StaysFilled (f : Flowchart) : Type 0 where
  -- the walk begins with such ranges
  pub start : (limits : Limits) → HaveLimits f limits
      → AreFilled (scope_of f) (start_ranges f limits)
  -- a test leaves such ranges in each branch that can be reached
  pub test : (t : Term) (at : ℕ) (rs : Ranges) (br : Branches) → AreFilled (scope_of f) rs
      → tested (scope_of f) t at rs ≡ Ok br → AreBranchesFilled (scope_of f) br
  -- and so does each list of statements
  pub walk : (b : Body) (name : List ℕ) (at : ℕ) (rs ends : Ranges)
      → IsTypedBody (scope_of f) f.methods b → AreSmallTerms b
      → AreFilled (scope_of f) rs → walked (scope_of f) (range_calls_in f) name at b rs ≡ Ok ends
      → AreFilled (scope_of f) ends

-- in the walk of each well-typed plan within its limits no variable's range gets empty
abbrev pub NoRangeGetsEmpty : Type 0
NoRangeGetsEmpty = (f : Flowchart) → IsWellTyped f → IsWithinCounts f → StaysFilled f

-- the range of an expression that the walk passes has the shape of its kind, whatever the ranges of the variables
abbrev pub RangesHaveShape : Type 0
RangesHaveShape =
    (scope : Scope) (t : Term) (at : ℕ) (rs : Ranges) (r : Interval)
    → IsTypedTerm scope t → KeepsScales t
    → ranged scope t at rs ≡ Ok r → HasShape (kind_of scope t) r
