-- Where the walk over a plan's ranges comes, statement by statement, and what it finds there. Source: reachability by abstract
-- interpretation: what the walk never comes to is executed by no run, and the hull of what it finds at all its visits has what a run
-- finds.
use Rattle.std.specs.Prelude.{◌≡◌, ◌≤◌, ◌↔◌, ℕ, Bool, IsTrue, IsSomeAnd, MatchOption, List, Option}
use Rattle.std.specs.declared.cmp.Ordering.{Ordering}
use Rattle.std.specs.Ordering.{nat_cmp, bool_cmp, ordering_then}
use Rattle.std.specs.Cmp.Lexicographic.{slice_cmp}
use Rattle.std.specs.BTreeMap.{BTreeMap, get}
use Rattle.std.specs.BTreeSet.{BTreeSet, contains}
use Rattle.scaled_decimal.specs.Decimals.{Decimal, decimal, scale_of}
use Rattle.pap_tree.specs.Flowchart.{Flowchart}
use Rattle.limits_file.specs.declared.limits.Limits.{Limits}
use Rattle.limits_file.specs.Limits.{IsNoGreater}
use Rattle.interval_num.specs.Intervals.{Interval}
use Rattle.pap_types.specs.Scopes.{Scope, scope_of}
use Rattle.interval_walk.specs.Visits.{Visit, WalkComes, PutsRange, LeavesOpen, Execution, RunExecutes, PutsValue, TakesExit}
use Rattle.interval_analysis.specs.declared.value_range.ValueRange.{ValueRange}

-- ---- where the walk comes

-- a statement: its method and its number there
abbrev pub StatementPlace : Type 0
StatementPlace = List ℕ × ℕ

-- the order of statements: by method, then by number
abbrev pub place_cmp : StatementPlace → StatementPlace → Ordering
place_cmp p q = ordering_then (slice_cmp nat_cmp p.0 q.0) (nat_cmp p.1 q.1)

-- a statement is one of these
abbrev pub IsOneOf : BTreeSet StatementPlace → StatementPlace → Type 0
IsOneOf places p = IsTrue (contains place_cmp places p)

-- some of these visits is of the statement
abbrev pub IsVisitedBy : (Visit → Type 0) → StatementPlace → Type 0
IsVisitedBy Comes p = (v : Visit) × Comes v × ((v.method, v.number) ≡ p)

-- these are the statements to which the walk of a plan comes
abbrev pub AreReached : Flowchart → Limits → BTreeSet StatementPlace → Type 0
AreReached f limits places = (p : StatementPlace) → IsOneOf places p ↔ IsVisitedBy (WalkComes f limits) p

-- every statement that a run on these inputs executes is one of these
abbrev pub HaveExecuted : Flowchart → List Decimal → BTreeSet StatementPlace → Type 0
HaveExecuted f inputs places = (x : Execution) → RunExecutes f inputs x → IsOneOf places (x.method, x.number)

-- ---- what an EVAL puts

-- an interval by its values: its ends at its greatest scale, and its least and greatest scale
abbrev pub value_range : Interval → ValueRange
value_range a = record {
  least = decimal a.lo a.s_hi;
  greatest = decimal a.hi a.s_hi;
  fewest_places = a.s_lo;
  most_places = a.s_hi;
}

-- each value of a range lies in another
pub record LiesWithin (r s : ValueRange) : Type 0 where
  pub least : IsNoGreater s.least r.least
  pub greatest : IsNoGreater r.greatest s.greatest
  pub fewest_places : s.fewest_places ≤ r.fewest_places
  pub most_places : r.most_places ≤ s.most_places

-- the least range in which each of these lies: what it says is what some of them says
pub record IsLeastRange (These : ValueRange → Type 0) (r : ValueRange) : Type 0 where
  pub around : (s : ValueRange) → These s → LiesWithin s r
  pub least : (s : ValueRange) × These s × (s.least ≡ r.least)
  pub greatest : (s : ValueRange) × These s × (s.greatest ≡ r.greatest)
  pub fewest_places : (s : ValueRange) × These s × (s.fewest_places ≡ r.fewest_places)
  pub most_places : (s : ValueRange) × These s × (s.most_places ≡ r.most_places)

-- the least range where there are some of these, and none where there aren't any
abbrev pub IsLeastOf : (ValueRange → Type 0) → Option ValueRange → Type 0
IsLeastOf These o = MatchOption o ((s : ValueRange) → These s → ⊥) (IsLeastRange These)

-- a visit is of the statement, an EVAL, and puts this range there
abbrev pub PutsAt : Scope → StatementPlace → ValueRange → Visit → Type 0
PutsAt scope p r v =
    ((v.method, v.number) ≡ p) × ((a : Interval) × PutsRange scope v.statement v.ranges a × (value_range a ≡ r))

-- some of these visits puts this range at the statement
abbrev pub IsPutBy : Scope → (Visit → Type 0) → StatementPlace → ValueRange → Type 0
IsPutBy scope Comes p r = (v : Visit) × Comes v × PutsAt scope p r v

-- these are the least ranges of what each EVAL puts at all the visits of a plan's walk; another statement has none
abbrev pub AreLeastRanges : Flowchart → Limits → BTreeMap StatementPlace ValueRange → Type 0
AreLeastRanges f limits values =
    (p : StatementPlace) → IsLeastOf (IsPutBy (scope_of f) (WalkComes f limits) p) (get place_cmp values p)

-- a value lies in a range
pub record HasValue (r : ValueRange) (d : Decimal) : Type 0 where
  pub least : IsNoGreater r.least d
  pub greatest : IsNoGreater d r.greatest
  pub fewest_places : r.fewest_places ≤ scale_of d
  pub most_places : scale_of d ≤ r.most_places

-- each value that a run on these inputs puts at an EVAL lies in the statement's range, which is one of these
abbrev pub HavePut : Flowchart → List Decimal → BTreeMap StatementPlace ValueRange → Type 0
HavePut f inputs values =
    (x : Execution) (d : Decimal) → RunExecutes f inputs x → PutsValue (scope_of f) x.statement x.variables d
    → IsSomeAnd (get place_cmp values (x.method, x.number)) (λ r. HasValue r d)

-- ---- which exits of an IF are open

-- an exit of an IF: its method, its number there, and whether its test holds there
abbrev pub ExitPlace : Type 0
ExitPlace = List ℕ × ℕ × Bool

-- the IF of an exit
abbrev pub exit_statement : ExitPlace → StatementPlace
exit_statement q = (q.0, q.1)

-- the order of exits: by statement, that where the test fails first
abbrev pub exit_cmp : ExitPlace → ExitPlace → Ordering
exit_cmp p q = ordering_then (place_cmp (exit_statement p) (exit_statement q)) (bool_cmp p.2 q.2)

-- an exit is one of these
abbrev pub IsExitOf : BTreeSet ExitPlace → ExitPlace → Type 0
IsExitOf exits q = IsTrue (contains exit_cmp exits q)

-- a visit is of the exit's IF, and leaves the exit open
abbrev pub OpensAt : Scope → ExitPlace → Visit → Type 0
OpensAt scope q v = ((v.method, v.number) ≡ exit_statement q) × LeavesOpen scope v.statement v.ranges q.2

-- some of these visits leaves the exit open
abbrev pub IsOpenBy : Scope → (Visit → Type 0) → ExitPlace → Type 0
IsOpenBy scope Comes q = (v : Visit) × Comes v × OpensAt scope q v

-- these are the exits that are open at some visit of a plan's walk
abbrev pub AreOpen : Flowchart → Limits → BTreeSet ExitPlace → Type 0
AreOpen f limits exits = (q : ExitPlace) → IsExitOf exits q ↔ IsOpenBy (scope_of f) (WalkComes f limits) q

-- every exit that a run on these inputs takes is one of these
abbrev pub HaveTaken : Flowchart → List Decimal → BTreeSet ExitPlace → Type 0
HaveTaken f inputs exits =
    (x : Execution) (holds : Bool) → RunExecutes f inputs x
    → TakesExit (scope_of f) x.statement x.variables holds → IsExitOf exits (x.method, x.number, holds)
