use Rattle.std.proofs.Common.{sym, ap, ◌∙◌, arith}
use Rattle.std.specs.Prelude.{slice_set}
use Rattle.std.proofs.lemmas.Result.{on_ok_weaker}
use Rattle.pap_tree.specs.Flowchart.{flowchart_of}
use Rattle.run_trace.specs.RunMarks.{execution}
use Rattle.run_trace.specs.private.MarkViews.{with_execution}
use Rattle.run_trace.proofs.MarkLemmas.{changed_in, changed_out}
use Rattle.run_trace.proofs.marks.add_at.Goals as goal

pub returns-then-at-statements : goal.returns-then-at-statements
returns-then-at-statements c =
    let one = with_execution (flowchart_of c.args.telling.plan.now) (execution c.args.number c.args.values.now c.args.step.now) in
    sym (changed_out c.args.at one c.args.statements.now (omega arith))

pub returns : goal.returns
returns c =
    let one = with_execution (flowchart_of c.args.telling.plan.now) (execution c.args.number c.args.values.now c.args.step.now) in
    on_ok_weaker c.add.result
    (λ added. ap (λ y. slice_set c.args.statements.now c.args.at y) added
    ∙ sym (changed_in c.args.at one c.args.statements.now c.index-statements-at.result (omega arith)))
    c.add.ensures
