-- Ranges of variables by their numbers, and changes of some of them.
use Rattle.std.specs.Prelude.{List, [], ◌∷◌, Option, Some, None, slice_set}
use Rattle.std.proofs.Common.{Vec, Global}
use Rattle.std.specs.Option.{option_map}
use Rattle.std.specs.List.{AllByRecursion}
use Rattle.interval_num.specs.Intervals.{Interval, IsKeptInterval}
use Rattle.interval_analysis.specs.declared.branches.Branches.{Branches}
use Rattle.interval_analysis.specs.declared.branches.Change.{Change}
use Rattle.interval_analysis.specs.declared.branches.Narrowed.{Narrowed}
use Rattle.interval_analysis.specs.declared.branches.Connective.{Connective}
use Rattle.interval_analysis.specs.declared.branches.Connective.TheVariants.{And, Or}

-- each range is one that the code keeps
abbrev pub AreKept : List Interval → Type 0
AreKept ranges = AllByRecursion IsKeptInterval ranges

-- the ranges after changes, of which a later one counts
abbrev pub changed : List Interval → List Change → List Interval
changed ranges [] = ranges
changed ranges (c ∷ cs) = changed (slice_set ranges c.number c.range) cs

-- the ranges after a change, if there is one
abbrev pub after_change : List Interval → Option Change → List Interval
after_change ranges None = ranges
after_change ranges (Some c) = slice_set ranges c.number c.range

-- the ranges after the changes of a comparison's sides
abbrev pub after_both : List Interval → Narrowed → List Interval
after_both ranges n = after_change (after_change ranges n.left) n.right

-- the ranges where a branch of changes leads, if it can be reached
abbrev pub ranges_left : List Interval → Option (Vec Change Global) → Option (List Interval)
ranges_left ranges o = option_map (λ changes. changed ranges changes.items) o

-- branches of changes as a connective goes on: where a part of && holds, and where one of || fails
abbrev pub turned_changes : Connective → Branches → Branches
turned_changes And b = b
turned_changes Or b = record { holds = b.fails; fails = b.holds }
