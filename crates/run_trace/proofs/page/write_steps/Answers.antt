use Rattle.std.proofs.Common.{◌≡◌, ap, ◌∙◌}
use Rattle.std.proofs.lemmas.Result.{IfOk-weaker}
use Rattle.pap_tree.specs.Flowchart.{flowchart_of}
use Rattle.pap_plan.specs.Plans.{flowchart}
use Rattle.run_trace.specs.RunMarks.{executions_from, marks_with}
use Rattle.run_trace.specs.private.PageViews.{AddsList}
use Rattle.run_trace.proofs.PageLemmas.{list_added}
use Rattle.run_trace.proofs.page.write_steps.Goals as goal

pub returns : goal.returns
returns c =
    let f = flowchart_of c.text-text.result.now in
    IfOk-weaker c.run_marks.result
    (λ marks. marks.items ≡ marks_with f (executions_from f 1 c.deref_mut-2.result.now c.deref-3.result.now))
    (λ marks. AddsList (flowchart c.args.plan.now) c.args.lines.now c.args.inputs.now c.args.part.now c.write_list.new.part marks.items)
    (λ marks is. list_added c.args.plan.now f c.args.lines.now c.args.inputs.now
    c.deref_mut.result.now c.deref_mut-2.result.now c.in_ok-steps.steps.items c.deref-2.result.now c.deref-3.result.now
    c.args.part.now c.write_list.new.part marks.items
    (ap flowchart_of c.text-text.ensures.text) c.in_ok-steps.ensures.ok c.deref-2.ensures.value c.deref-3.ensures.value
    (c.deref_mut.ensures.value ∙ c.in_ok-values.ensures) (c.deref_mut-2.ensures.value ∙ c.in_ok-again.ensures)
    c.in_ok-write_list.ensures is)
    c.run_marks.ensures
