use Rattle.std.proofs.Common.{◌+◌, ◌*◌, drop}
use Rattle.pap_tree.specs.Flowchart.{body_of, stmt_then, done, flowchart_of}
use Rattle.pap_tree.specs.Statements.{written}
use Rattle.call_order.proofs.ContentLemmas.{IsLeft}
use Rattle.call_order.proofs.contents.+collect.Given as goal

abbrev pub decreases-collect : goal.decreases-collect
decreases-collect l = 2 * written (body_of l.body.now) + 1

abbrev pub decreases-collect_one : goal.decreases-collect_one
decreases-collect_one l = 2 * written (stmt_then l.statement.now done)

abbrev pub invariant-collect-loop-statement : goal.invariant-collect-loop-statement
invariant-collect-loop-statement l =
    IsLeft (flowchart_of l.t).methods (body_of l.body) (body_of (drop l.statement-index l.body)) l.initial.contents l.contents
