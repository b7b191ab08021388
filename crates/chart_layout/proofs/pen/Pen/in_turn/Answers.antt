use Rattle.std.proofs.Common.{◌∙◌, arith}
use Rattle.chart_layout.proofs.LeadLemmas.{row_lines, row_leaving, row_lines_all, row_leaving_all}
use Rattle.chart_layout.proofs.pen.Pen.in_turn.Goals as goal

pub loop-statement-preserved : goal.loop-statement-preserved
loop-statement-preserved c = (
  c.in_ok-exits.ensures.rows ∙ c.loop-statement.invariant.0,
  row_lines c.args.row.now c.loop-statement.statement-index c.statement-item.result c.loop-statement.self.leads.items c.step.new.self.leads.items _
      c.loop-statement.exits.items c.in_ok-exits.exits.items (omega (arith, c.loop-statement-test.true)) c.statement-item.is
      c.in_ok-exits.ensures.leads c.in_ok-exits.ensures.exit c.loop-statement.invariant.1,
  row_leaving c.args.row.now c.loop-statement.statement-index c.statement-item.result c.loop-statement.exits.items c.in_ok-exits.exits.items _
      (omega (arith, c.loop-statement-test.true)) c.statement-item.is c.in_ok-exits.ensures.exit c.loop-statement.invariant.2,
)

pub returns-clause-leads : goal.returns-clause-leads
returns-clause-leads c =
    row_lines_all c.args.row.now c.loop-statement.statement-index c.loop-statement.self.leads.items _ c.loop-statement.exits.items
    (omega (arith, c.loop-statement-test.false)) c.loop-statement.invariant.1

pub returns-clause-exits : goal.returns-clause-exits
returns-clause-exits c =
    row_leaving_all c.args.row.now c.loop-statement.statement-index c.loop-statement.exits.items _ (omega (arith, c.loop-statement-test.false))
    c.loop-statement.invariant.2
