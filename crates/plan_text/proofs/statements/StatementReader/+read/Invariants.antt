use Rattle.std.proofs.Common.{◌≡◌, ◌+◌, ◌*◌, ◌≤◌, drop}
use Rattle.pap_reader.specs.Trees.{done, raw_body_of, raw_stmt_then}
use Rattle.pap_reader.specs.TreeLimits.{raw_written}
use Rattle.plan_text.proofs.StatementLemmas.{AreRead}
use Rattle.plan_text.proofs.statements.StatementReader.+read.Given as goal

abbrev pub decreases-read_body : goal.decreases-read_body
decreases-read_body l = 2 * raw_written (raw_body_of l.raw.now) + 1

abbrev pub decreases-read_statement : goal.decreases-read_statement
decreases-read_statement l = 2 * raw_written (raw_stmt_then l.raw.now done)

abbrev pub invariant-read_body-loop-statement : goal.invariant-read_body-loop-statement
invariant-read_body-loop-statement l =
    AreRead l.fn.self.method l.fn.self.next l.self.next (raw_body_of l.raw) (raw_body_of (drop l.statement-index l.raw)) l.read.items
    × (l.self.method ≡ l.fn.self.method)
    × (l.fn.self.next ≤ l.self.next)
