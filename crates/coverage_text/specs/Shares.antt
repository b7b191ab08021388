-- Counts as they are kept.
use Rattle.std.specs.Prelude.{◌≤◌}
use Rattle.coverage_text.specs.declared.counts.CoverageCounts.{CoverageCounts}

-- no more are covered than there are
pub record IsCountedWithin (c : CoverageCounts) : Type 0 where
  pub statements : c.covered_statements ≤ c.statements
  pub exits : c.covered_exits ≤ c.exits
