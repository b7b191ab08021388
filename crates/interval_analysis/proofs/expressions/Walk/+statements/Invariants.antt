use Rattle.std.proofs.Common.{◌≡◌, ◌+◌, ◌*◌, ◌^◌, ◌≤◌, drop, Option}
use Rattle.pap_tree.specs.Flowchart.{body_of, stmt_then, done}
use Rattle.pap_tree.specs.Statements.{written}
use Rattle.pap_types.specs.private.ScopeViews.{scope_in}
use Rattle.interval_analysis.specs.declared.visits.Known.{Known}
use Rattle.interval_analysis.specs.private.PlanViews.{ranges_in}
use Rattle.interval_analysis.specs.private.VariableViews.{GoesOn}
use Rattle.interval_analysis.specs.private.VisitViews.{GathersIn, ComesIn}
use Rattle.interval_analysis.specs.private.StatementViews.{CanWalkBody, walked_in}
use Rattle.interval_analysis.proofs.expressions.Walk.+statements.Given as goal

-- the chain of methods that is left counts first, and then the statements
abbrev pub decreases-walk_body : goal.decreases-walk_body
decreases-walk_body l = l.spot.chain * 2 ^ 40 + 7 * written (body_of l.body.now) + 1

abbrev pub decreases-walk_statement : goal.decreases-walk_statement
decreases-walk_statement l = l.spot.chain * 2 ^ 40 + 7 * written (stmt_then l.stmt.now done)

abbrev pub decreases-walk_if : goal.decreases-walk_if
decreases-walk_if l = l.spot.chain * 2 ^ 40 + 7 * (written (body_of l.yes.now) + written (body_of l.no.now)) + 6

abbrev pub decreases-walk_fork : goal.decreases-walk_fork
decreases-walk_fork l = l.spot.chain * 2 ^ 40 + 7 * (written (body_of l.fork.now.yes.now) + written (body_of l.fork.now.no.now)) + 5

abbrev pub decreases-walk_first : goal.decreases-walk_first
decreases-walk_first l = l.spot.chain * 2 ^ 40 + 7 * (written (body_of l.fork.now.yes.now) + written (body_of l.fork.now.no.now)) + 3

abbrev pub decreases-walk_second : goal.decreases-walk_second
decreases-walk_second l = l.spot.chain * 2 ^ 40 + 7 * (written (body_of l.fork.now.yes.now) + written (body_of l.fork.now.no.now)) + 3

abbrev pub decreases-walk_second_last : goal.decreases-walk_second_last
decreases-walk_second_last l = l.spot.chain * 2 ^ 40 + 7 * (written (body_of l.fork.now.yes.now) + written (body_of l.fork.now.no.now)) + 3

abbrev pub decreases-walk_first_last : goal.decreases-walk_first_last
decreases-walk_first_last l = l.spot.chain * 2 ^ 40 + 7 * (written (body_of l.fork.now.yes.now) + written (body_of l.fork.now.no.now)) + 3

abbrev pub decreases-walk_both : goal.decreases-walk_both
decreases-walk_both l = l.spot.chain * 2 ^ 40 + 7 * (written (body_of l.fork.now.yes.now) + written (body_of l.fork.now.no.now)) + 4

abbrev pub decreases-walk_branch : goal.decreases-walk_branch
decreases-walk_branch l = l.spot.chain * 2 ^ 40 + 7 * written (body_of l.body.now) + 2

abbrev pub decreases-walk_method : goal.decreases-walk_method
decreases-walk_method l = l.chain * 2 ^ 40

abbrev pub invariant-walk_body-loop-stmt : goal.invariant-walk_body-loop-stmt
invariant-walk_body-loop-stmt l = record {
  number : l.next + written (body_of (drop l.stmt-index l.body)) ≡ l.fn.spot.at + written (body_of l.body);
  above : l.fn.spot.at ≤ l.next;
  walk : CanWalkBody l.self (body_of (drop l.stmt-index l.body)) l.next;
  left :
      walked_in l.self (record l.fn.spot { at = l.next }) (body_of (drop l.stmt-index l.body)) l.variables.ranges.items
      ≡ walked_in l.self l.fn.spot (body_of l.body) l.initial.variables.ranges.items;
  on : GoesOn l.self.plan.now l.initial.variables l.variables;
  gathers :
      (last : Option Known)
      → GathersIn (scope_in l.self.plan.now) (ComesIn l.self (record l.fn.spot { at = l.next }) (body_of (drop l.stmt-index l.body)) (ranges_in l.self.plan.now l.variables.ranges.items)) l.visits.known last
      → GathersIn (scope_in l.self.plan.now) (ComesIn l.self l.fn.spot (body_of l.body) (ranges_in l.self.plan.now l.initial.variables.ranges.items)) l.initial.visits.known last;
}
