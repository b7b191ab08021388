-- What private contracts say of the sides of a comparison, whose variables have numbers.
use Rattle.std.specs.Prelude.{◌≡◌, ◌≢◌, ℕ, if◌then◌else◌, Bool, List, Option, Some, None, slice_get, slice_set}
use Rattle.std.specs.Bool.{OnTrue}
use Rattle.std.specs.Option.{option_map, option_and_then}
use Rattle.interval_num.specs.declared.sign_set.SignSet.{SignSet}
use Rattle.interval_num.specs.Intervals.{Interval, IsKeptInterval, IsWhole}
use Rattle.interval_num.specs.Alignment.{Align}
use Rattle.interval_num.specs.Refinement.{refined}
use Rattle.interval_num.specs.Signs.{signs_of}
use Rattle.interval_walk.specs.Branches.{others, exchanged, can_have}
use Rattle.interval_analysis.specs.declared.branches.Branches.{Branches}
use Rattle.interval_analysis.specs.declared.comparisons.Against.{Against}
use Rattle.interval_analysis.specs.declared.comparisons.Sides.{Sides}
use Rattle.interval_analysis.specs.declared.expressions.Operands.{Operands}
use Rattle.interval_analysis.specs.declared.expressions.Ranged.{Ranged}
use Rattle.interval_analysis.specs.private.Changes.{ranges_left}

abbrev pub sides_of : Operands → Bool → Sides
sides_of o whole = record { left = o.first; right = o.second; whole = whole }

abbrev pub against : Interval → SignSet → Bool → Against
against a allowed whole = record { range = a; allowed = allowed; whole = whole }

-- ---- what may be compared

-- an interval may be refined by another
pub record CanRefine (whole : Bool) (v e : Interval) : Type 0 where
  pub aligned : Align v e
  pub left_whole : OnTrue whole (IsWhole v)
  pub right_whole : OnTrue whole (IsWhole e)

-- so may the range of the variable of a number
pub record CanNarrowAt (n : ℕ) (a : Against) (rs : List Interval) : Type 0 where
  pub range : Interval
  pub there : slice_get rs n ≡ Some range
  pub refines : CanRefine a.whole range a.range

abbrev pub CanNarrow : Option ℕ → Against → List Interval → Type 0
CanNarrow variable a rs = (n : ℕ) → variable ≡ Some n → CanNarrowAt n a rs

-- a side that is a variable has its range
abbrev pub HasRange : Ranged → List Interval → Type 0
HasRange s rs = (n : ℕ) → s.variable ≡ Some n → slice_get rs n ≡ Some s.range

-- the sides of a comparison have their ranges, which are aligned, and those of whole numbers where they are to be
pub record CanCompare (s : Sides) (rs : List Interval) : Type 0 where
  pub ranges : CanRefine s.whole s.left.range s.right.range
  pub left : HasRange s.left rs
  pub right : HasRange s.right rs

-- sides of one greatest scale that aren't one variable
pub record AreApart (s : Sides) : Type 0 where
  pub left : IsKeptInterval s.left.range
  pub right : IsKeptInterval s.right.range
  pub scale : s.left.range.s_hi ≡ s.right.range.s_hi
  pub variables : s.left.variable ≢ s.right.variable

-- ---- the branches of a comparison, by the numbers of the variables

-- the ranges where the test holds and where it fails; none where no value leads there
pub record Ways : Type 0 where
  pub holds : Option (List Interval)
  pub fails : Option (List Interval)

abbrev pub ways_in : List Interval → Branches → Ways
ways_in rs b = record { holds = ranges_left rs b.holds; fails = ranges_left rs b.fails }

-- the ranges where a side stands against another
abbrev pub narrowed : Option ℕ → Against → List Interval → Option (List Interval)
narrowed None a rs = Some rs
narrowed (Some n) a rs =
    option_and_then (λ v. option_map (slice_set rs n) (refined v a.range a.allowed a.whole)) (slice_get rs n)

-- the branch of the allowed signs, and both
abbrev pub branch_by : Sides → SignSet → List Interval → Option (List Interval)
branch_by s allowed rs =
    if can_have allowed (signs_of s.left.range s.right.range)
    then option_and_then
    (narrowed s.right.variable (against s.left.range (exchanged allowed) s.whole))
    (narrowed s.left.variable (against s.right.range allowed s.whole) rs)
    else None

abbrev pub branches_by : Sides → SignSet → List Interval → Ways
branches_by s allowed rs = record { holds = branch_by s allowed rs; fails = branch_by s (others allowed) rs }
