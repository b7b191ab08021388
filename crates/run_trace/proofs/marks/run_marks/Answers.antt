use Rattle.std.proofs.Common.{◌≡◌, sym, ◌∙◌, subst, length, rules}
use Rattle.std.specs.Prelude.{IfOk}
use Rattle.pap_tree.specs.Flowchart.{flowchart_of}
use Rattle.run_trace.specs.RunMarks.{executions_from}
use Rattle.run_trace.proofs.MarkLemmas.{marks_are, as_many_executions}
use Rattle.run_trace.proofs.LineLemmas.{written_whole}
use Rattle.run_trace.proofs.marks.run_marks.Goals as goal

pub returns : goal.returns
returns c =
    let f = flowchart_of c.args.telling.plan.now in
    let steps = c.args.steps.now in
    let es = executions_from f 1 c.args.values.now steps in
    subst (λ l. IfOk c.tallied_marks.result (λ marks. marks.items ≡ l))
    (marks_are f c.args.telling.methods.now es c.deref_mut.result.now c.deref.result.now (length steps) c.requires
    (c.deref_mut.ensures.value ∙ c.in_ok-tallies.ensures)
    (c.deref.ensures.value
    ∙ written_whole c.in_ok-tallies.tallies.len c.add_steps.new.tallies c.in_ok-tallies.tallies.items (search rules) (search rules)
    ∙ c.in_ok-add_steps.ensures)
    (sym (as_many_executions f 1 c.args.values.now steps)))
    c.tallied_marks.ensures
