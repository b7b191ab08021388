-- What is noted of changes of ranges, so that they can be taken back.
use Rattle.std.specs.Prelude.{◌≡◌, ◌≢◌, ◌<◌, ◌≤◌, ℕ, suc, Bool, true, false, List, [], ◌∷◌, ◌++◌, length, take, drop, Option, Some, None, slice_get, slice_set, ⊤}
use Rattle.std.specs.List.{AllByRecursion}
use Rattle.interval_num.specs.Intervals.{Interval}
use Rattle.interval_analysis.specs.declared.branches.Change.{Change}
use Rattle.interval_analysis.specs.declared.variables.Variables.{Variables}
use Rattle.interval_analysis.specs.private.Changes.{changed}

-- the ranges before changes, of which each is noted with what it replaced: the last one is taken back first
abbrev pub taken_back : List Interval → List Change → List Interval
taken_back ranges [] = ranges
taken_back ranges (c ∷ cs) = slice_set (taken_back ranges cs) c.number c.range

-- what has changed between two times is noted behind the notes of before
pub record IsNoted (was now : Variables) : Type 0 where
  pub more : List Change
  pub grown : now.notes.items ≡ was.notes.items ++ more
  pub back : taken_back now.ranges.items more ≡ was.ranges.items

-- a variable with its range, where there is one of this number
abbrev pub range_there : ℕ → Option Interval → List Change
range_there n None = []
range_there n (Some r) = record { number = n; range = r } ∷ []

-- the ranges that the variables of changes have
abbrev pub own_ranges : List Interval → List Change → List Change
own_ranges ranges [] = []
own_ranges ranges (c ∷ cs) = range_there c.number (slice_get ranges c.number) ++ own_ranges ranges cs

-- each is the range that its variable has
abbrev pub AreOwn : List Interval → List Change → Type 0
AreOwn ranges cs = AllByRecursion (λ c. slice_get ranges c.number ≡ Some c.range) cs

-- these changes make the ranges of before those of now, and each is a range of now
pub record IsTold (was now : List Interval) (cs : List Change) : Type 0 where
  pub whole : changed was cs ≡ now
  pub own : AreOwn now cs

-- ranges with their numbers, the first of which is this
abbrev pub numbered : ℕ → List Interval → List Change
numbered n [] = []
numbered n (r ∷ rs) = record { number = n; range = r } ∷ numbered (suc n) rs

-- none of these notes is of the variable
abbrev pub IsOther : ℕ → List Change → Type 0
IsOther n cs = AllByRecursion (λ c. n ≢ c.number) cs

-- each of these notes is of another variable
abbrev pub AreDistinct : List Change → Type 0
AreDistinct [] = ⊤
AreDistinct (c ∷ cs) = IsOther c.number cs × AreDistinct cs

-- each stands at its variable's place, the first one at this
abbrev pub ArePlaced : ℕ → List ℕ → List Change → Type 0
ArePlaced at places [] = ⊤
ArePlaced at places (c ∷ cs) = (slice_get places c.number ≡ Some at) × ArePlaced (suc at) places cs

-- a variable that has a place and no note among these
pub record IsFirst (places : List ℕ) (cs : List Change) (n : ℕ) : Type 0 where
  pub within : n < length places
  pub other : IsOther n cs

-- what these notes take back is the same whatever range that variable has, if it is one of those that have places
abbrev pub IsRepeated : List ℕ → List Change → ℕ → Type 0
IsRepeated places cs n = (ranges : List Interval) (r : Interval) → length ranges ≤ length places → taken_back (slice_set ranges n r) cs ≡ taken_back ranges cs

abbrev pub FirstAnswer : List ℕ → List Change → ℕ → Bool → Type 0
FirstAnswer places cs n true = IsFirst places cs n
FirstAnswer places cs n false = IsRepeated places cs n

-- the notes behind so many take back to the same ranges, and those before stay
pub record TakesBackAs (mark : ℕ) (was now : Variables) : Type 0 where
  pub within : mark ≤ length now.notes.items
  pub before : take mark now.notes.items ≡ take mark was.notes.items
  pub back : taken_back now.ranges.items (drop mark now.notes.items) ≡ taken_back was.ranges.items (drop mark was.notes.items)
