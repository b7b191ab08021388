-- What runs can come to in a flowchart, and to how much of it they came. Source: statement coverage and branch coverage, as ISO/IEC/IEEE
-- 29119-4 has them. A coverage item is a statement, or an exit of a test.
use Rattle.std.specs.Prelude.{ℕ, ◌+◌, ◌*◌, ◌/◌, ◌==◌, nat_lt, Bool, not, ◌&&◌, if◌then◌else◌, Option, List, count_by}
use Rattle.std.specs.List.{fold}
use Rattle.coverage_text.specs.declared.counts.CoverageCounts.{CoverageCounts}
use Rattle.coverage_text.specs.declared.item.ExitRuns.{ExitRuns}

-- a coverage item: the number of its statement in the method, its place and its text, whether it is an exit of a test, whether a run
-- within the ranges may come there, how many runs came there, and how many took its exits, where it is a test to which a run may come
pub record CoverageItem : Type 0 where
  pub statement : ℕ
  pub words : List ℕ
  pub is_exit : Bool
  pub is_reachable : Bool
  pub runs : ℕ
  pub exits : Option ExitRuns

-- a method with its coverage items
pub record CoveredMethod : Type 0 where
  pub name : List ℕ
  pub items : List CoverageItem

-- ---- counts

-- the item is a statement to which a run may come
abbrev pub is_reachable_statement : CoverageItem → Bool
is_reachable_statement i = i.is_reachable && not i.is_exit

-- the item is an exit that a run may take
abbrev pub is_exit : CoverageItem → Bool
is_exit i = i.is_reachable && i.is_exit

-- some run came there
abbrev pub is_covered : CoverageItem → Bool
is_covered i = nat_lt 0 i.runs

-- a run may come there, and none came
abbrev pub is_never_reached : CoverageItem → Bool
is_never_reached i = i.is_reachable && i.runs == 0

-- no run within the ranges may come there
abbrev pub is_unreachable : CoverageItem → Bool
is_unreachable i = not i.is_reachable

-- of some items: the statements and the exits that runs may come to, to how many of them some run came, and the items to which
-- none may come
abbrev pub item_counts : List CoverageItem → CoverageCounts
item_counts items = record {
  covered_statements = count_by (λ i. is_reachable_statement i && is_covered i) items;
  statements = count_by is_reachable_statement items;
  covered_exits = count_by (λ i. is_exit i && is_covered i) items;
  exits = count_by is_exit items;
  unreachable = count_by is_unreachable items;
}

-- counts of nothing
abbrev pub no_counts : CoverageCounts
no_counts = record { covered_statements = 0; statements = 0; covered_exits = 0; exits = 0; unreachable = 0 }

-- the sums of two counts
abbrev pub counts_sum : CoverageCounts → CoverageCounts → CoverageCounts
counts_sum a b = record {
  covered_statements = a.covered_statements + b.covered_statements;
  statements = a.statements + b.statements;
  covered_exits = a.covered_exits + b.covered_exits;
  exits = a.exits + b.exits;
  unreachable = a.unreachable + b.unreachable;
}

-- the counts of all methods: the sums of theirs
abbrev pub method_counts : List CoveredMethod → CoverageCounts
method_counts methods = fold (λ c m. counts_sum c (item_counts m.items)) no_counts methods

-- so many of so many, in whole percent, rounded down; all of nothing are 100 percent
abbrev pub percent_of : ℕ → ℕ → ℕ
percent_of part whole = if whole == 0 then 100 else (100 * part) / whole

-- to which share of the statements and exits together, in whole percent, runs came, of those to which runs may come
abbrev pub share_reached : CoverageCounts → ℕ
share_reached c = percent_of (c.covered_statements + c.covered_exits) (c.statements + c.exits)
