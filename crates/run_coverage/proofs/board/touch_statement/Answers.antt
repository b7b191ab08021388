use Rattle.std.proofs.Common.{sym, arith}
use Rattle.run_coverage.specs.private.Tallies.{with_step}
use Rattle.run_coverage.proofs.PlaceLemmas.{touched_set, touched_out}
use Rattle.run_coverage.proofs.board.touch_statement.Goals as goal

pub returns-then-at-statements : goal.returns-then-at-statements
returns-then-at-statements c =
    touched_set c.args.at (with_step c.args.run c.args.step.now) c.args.statements.now c.index-statements-at.result
    c.with_step.result (omega arith) c.index-statements-at.is c.with_step.ensures

pub returns-else-at-statements : goal.returns-else-at-statements
returns-else-at-statements c =
    sym (touched_out c.args.at (with_step c.args.run c.args.step.now) c.args.statements.now (omega arith))
