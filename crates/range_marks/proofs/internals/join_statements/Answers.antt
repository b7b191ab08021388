use Rattle.std.proofs.Common.{sym, subst}
use Rattle.pap_tree.specs.Flowchart.{flowchart_of}
use Rattle.range_marks.specs.RangeMarks.{findings_in}
use Rattle.range_marks.specs.private.InternalViews.{Joins, PutsHere}
use Rattle.range_marks.proofs.JoinLemmas.{no_statement, statement_joined, statements_joined}
use Rattle.range_marks.proofs.internals.join_statements.Goals as goal

pub loop-at-init : goal.loop-at-init
loop-at-init c =
    no_statement (flowchart_of c.args.plan.now).internals (findings_in c.args.survey.now) c.args.name.now c.args.statements.now
    c.args.ranges.now

pub loop-at-preserved : goal.loop-at-preserved
loop-at-preserved c =
    let ds = (flowchart_of c.args.plan.now).internals in
    let w = findings_in c.args.survey.now in
    let name = c.args.name.now in
    let before = c.loop-at.ranges in
    let behind = c.join_statement.new.ranges in
    statement_joined ds w name c.args.statements.now c.loop-at.at c.index-statements-at.result c.args.ranges.now before behind
    c.index-statements-at.is c.loop-at-test.true c.loop-at.invariant
    (subst (λ p. Joins ds (PutsHere w p c.index-statements-at.result.form) before behind) c.in_ok-place.ensures
    (subst (λ form. Joins ds (PutsHere w c.in_ok-place.place form) before behind) c.form.ensures c.join_statement.ensures))

pub returns : goal.returns
returns c =
    statements_joined (flowchart_of c.args.plan.now).internals (findings_in c.args.survey.now) c.args.name.now
    c.args.statements.now c.loop-at.at c.args.ranges.now c.loop-at.ranges c.loop-at-test.false c.loop-at.invariant
