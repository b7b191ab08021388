-- Where the numbers of a plan are those of its types, nothing is refused where it is read: the ranges of the variables keep
-- the shapes of their kinds.
use Rattle.std.specs.Prelude.{◌≡◌, ℕ, ◌≤◌, List, Option, Some, Ok, All, IfSome, ⊤}
use Rattle.scaled_decimal.specs.Decimals.{Decimal, scale_of}
use Rattle.scaled_decimal.specs.Limits.{most_places}
use Rattle.scaled_decimal.specs.WholeNumbers.{int_bits, long_bits, IsOfBits}
use Rattle.pap_tree.specs.Term.{Leaf, whole, long, point, text, Term, leaf, item, one, two, choice}
use Rattle.pap_tree.specs.Declarations.{DeclaredLiteral, number, big, table}
use Rattle.pap_tree.specs.Flowchart.{Body, done, eval, branch, execute, Flowchart}
use Rattle.limits_file.specs.declared.limits.Limits.{Limits}
use Rattle.interval_num.specs.Intervals.{Interval}
use Rattle.interval_num.specs.Rows.{item_row}
use Rattle.pap_types.specs.Scopes.{Scope, scope_of, names_of, table_in}
use Rattle.pap_types.specs.Kinds.{name_kind}
use Rattle.pap_types.specs.Checks.{IsWellTyped}
use Rattle.pap_types.specs.Counts.{AreSmallTerms, IsWithinCounts}
use Rattle.pap_types.specs.Typing.{declarations_of, IsDeclaredLeaf, IsTypedBody}
use Rattle.interval_walk.specs.Ranges.{Ranges, names_in}
use Rattle.interval_walk.specs.NodeRanges.{leaf_interval, leaf_range, item_range}
use Rattle.interval_walk.specs.Branches.{Branches}
use Rattle.interval_walk.specs.Ranged.{tested}
use Rattle.interval_walk.specs.Walked.{walked}
use Rattle.interval_walk.specs.Analysis.{start_ranges, range_calls_in}
use Rattle.interval_walk.specs.Admission.{HaveLimits}
use Rattle.interval_walk.specs.Shapes.{HasShape}

-- ---- the numbers of a plan

-- at most 30 places
abbrev pub HasFewPlaces : Decimal → Type 0
HasFewPlaces d = scale_of d ≤ most_places

-- a literal is a number of its type
abbrev pub HoldsLeaf : Leaf → Type 0
HoldsLeaf (whole i) = IsOfBits int_bits i
HoldsLeaf (long i) = IsOfBits long_bits i
HoldsLeaf (point d) = HasFewPlaces d
HoldsLeaf (text d) = HasFewPlaces d
HoldsLeaf _ = ⊤

-- a declared literal is a number of its type
abbrev pub HoldsLiteral : DeclaredLiteral → Type 0
HoldsLiteral (number l) = HoldsLeaf l
HoldsLiteral (big d) = HasFewPlaces d
HoldsLiteral (table ds) = All HasFewPlaces ds

-- each declared literal of a plan is a number of its type
abbrev pub HoldsNumbers : Flowchart → Type 0
HoldsNumbers f = All (λ d. IfSome d.value HoldsLiteral) (declarations_of f)

-- each literal of an expression is a number of its type
abbrev pub HoldsTerm : Term → Type 0
HoldsTerm (leaf l) = HoldsLeaf l
HoldsTerm (item x e) = HoldsTerm e
HoldsTerm (one op e) = HoldsTerm e
HoldsTerm (two op e f) = HoldsTerm e × HoldsTerm f
HoldsTerm (choice c e f) = HoldsTerm c × HoldsTerm e × HoldsTerm f

-- each literal in a list of statements is a number of its type
abbrev pub HoldsBody : Body → Type 0
HoldsBody done = ⊤
HoldsBody (eval x e rest) = HoldsTerm e × HoldsBody rest
HoldsBody (branch t a b rest) = HoldsTerm t × HoldsBody a × HoldsBody b × HoldsBody rest
HoldsBody (execute m rest) = HoldsBody rest

-- each literal of a plan is a number of its type, as in each plan that was read from a text
pub record HoldsPlan (f : Flowchart) : Type 0 where
  pub declared : HoldsNumbers f
  pub main : HoldsBody f.main
  pub methods : All (λ m. HoldsBody m.body) f.methods

-- ---- the ranges of its variables

-- each variable has a range of the shape of its kind
pub record AreShaped (scope : Scope) (rs : Ranges) : Type 0 where
  pub names : names_in rs ≡ names_of scope.variables
  pub shapes : All (λ v. HasShape (name_kind scope v.name) v.range) rs

-- the ranges, where there are some, have the shapes of their variables' kinds
abbrev pub IsShapedIf : Scope → Option Ranges → Type 0
IsShapedIf scope o = IfSome o (AreShaped scope)

-- the ranges of each branch that can be reached have the shapes of their variables' kinds
pub record AreBranchesShaped (scope : Scope) (br : Branches) : Type 0 where
  pub holds : IsShapedIf scope br.holds
  pub fails : IsShapedIf scope br.fails

-- what is read of a leaf is what it is
pub record IsReadWhole (scope : Scope) (l : Leaf) (rs : Ranges) : Type 0 where
  pub range : Interval
  pub is : leaf_interval scope l rs ≡ Some range
  pub passes : leaf_range scope l rs ≡ Ok range

-- ---- the law

-- What is read in the walk of this plan is never refused.
pub record ReadingRefusesNothing (f : Flowchart) : Type 0 where
  -- the walk begins with such ranges
  pub start : (limits : Limits) → HaveLimits f limits
      → AreShaped (scope_of f) (start_ranges f limits)
  -- a test leaves such ranges in each branch that can be reached
  pub test : (t : Term) (at : ℕ) (rs : Ranges) (br : Branches) → AreShaped (scope_of f) rs
      → tested (scope_of f) t at rs ≡ Ok br → AreBranchesShaped (scope_of f) br
  -- and so does each list of statements
  pub walk : (b : Body) (name : List ℕ) (at : ℕ) (rs ends : Ranges)
      → IsTypedBody (scope_of f) f.methods b → AreSmallTerms b
      → AreShaped (scope_of f) rs → walked (scope_of f) (range_calls_in f) name at b rs ≡ Ok ends
      → AreShaped (scope_of f) ends
  -- in such ranges each declared name has the range that stands there, and so has each literal
  pub leaf : (l : Leaf) (rs : Ranges) → IsDeclaredLeaf (scope_of f) l → HoldsLeaf l
      → AreShaped (scope_of f) rs → IsReadWhole (scope_of f) l rs
  -- an item has the range that its row answers
  pub item : (x : List ℕ) (index r : Interval) → item_row (table_in (scope_of f) x) index ≡ Ok r
      → item_range (table_in (scope_of f) x) index ≡ Ok r

-- This holds of each well-typed plan within its limits whose numbers are those of their types.
abbrev pub NothingIsRefusedAtReading : Type 0
NothingIsRefusedAtReading =
    (f : Flowchart) → IsWellTyped f → IsWithinCounts f → HoldsNumbers f → ReadingRefusesNothing f
