use Rattle.std.proofs.Common.{◌+◌, ◌*◌, ◌≤◌, drop}
use Rattle.pap_reader.specs.Trees.{done, raw_body_of, raw_stmt_then}
use Rattle.pap_reader.specs.TreeLimits.{raw_written}
use Rattle.diagnostics.proofs.FindLemmas.{GoesOnBody}
use Rattle.diagnostics.proofs.expressions.FaultFinder.+find.Given as goal

abbrev pub decreases-find_in_body : goal.decreases-find_in_body
decreases-find_in_body l = 2 * raw_written (raw_body_of l.raw.now) + 1

abbrev pub decreases-find_in_statement : goal.decreases-find_in_statement
decreases-find_in_statement l = 2 * raw_written (raw_stmt_then l.raw.now done)

abbrev pub invariant-find_in_body-loop-statement : goal.invariant-find_in_body-loop-statement
invariant-find_in_body-loop-statement l =
    GoesOnBody l.fn.method l.fn.at l.next (raw_body_of l.raw) (raw_body_of (drop l.statement-index l.raw)) l.fn.self.faults.items l.self.faults.items
    × (l.fn.at ≤ l.next)
