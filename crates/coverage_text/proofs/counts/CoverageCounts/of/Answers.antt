use Rattle.coverage_text.specs.CoverageItems.{is_reachable_statement, is_exit, is_covered}
use Rattle.coverage_text.proofs.CountLemmas.{few_covered}
use Rattle.coverage_text.proofs.counts.CoverageCounts.of.Goals as goal

pub returns-clause-within : goal.returns-clause-within
returns-clause-within c = record {
  statements =
      few_covered is_reachable_statement is_covered c.args.items.now c.covered_statements.result c.statements.result
      c.covered_statements.ensures c.statements.ensures;
  exits =
      few_covered is_exit is_covered c.args.items.now c.covered_exits.result c.exits.result c.covered_exits.ensures
      c.exits.ensures;
}
