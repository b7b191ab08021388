use Rattle.std.proofs.Common.{sym, subst}
use Rattle.pap_tree.specs.Flowchart.{flowchart_of}
use Rattle.checked_run.specs.RunEnds.{IsRunEnd}
use Rattle.interval_walk.proofs.Laws.{are_inputs}
use Rattle.failing_input.specs.private.OutputViews.{HasEnds}
use Rattle.failing_input.proofs.OutputLemmas.{ends_there, ended_failure}
use Rattle.failing_input.proofs.samples.failure_on.Goals as goal

pub checked_run-requires : goal.checked_run-requires
checked_run-requires c =
    are_inputs c.args.limits.now (flowchart_of c.args.t.now).inputs c.args.inputs.now c.requires.limits c.requires.admitted

pub output_failure-requires : goal.output_failure-requires
output_failure-requires c =
    let f = flowchart_of c.args.t.now in
    let ends = subst (IsRunEnd f c.args.inputs.now) c.in-Ends.is c.in_ok-values.ensures in
    subst (HasEnds f) (sym c.deref.ensures.value) (ends_there f c.args.inputs.now c.in-Ends.values.items ends)

pub returns-in-Ends : goal.returns-in-Ends
returns-in-Ends c =
    let f = flowchart_of c.args.t.now in
    let ends = subst (IsRunEnd f c.args.inputs.now) c.in-Ends.is c.in_ok-values.ensures in
    ended_failure f c.args.inputs.now c.in-Ends.values.items c.deref.result.now c.output_failure.result ends
    c.deref.ensures.value c.output_failure.ensures
