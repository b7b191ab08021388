use Rattle.std.proofs.Common.{◌≤◌, map, sym, subst}
use Rattle.pap_tree.specs.Flowchart.{flowchart_of}
use Rattle.pap_types.specs.Meaning.{cost_of}
use Rattle.pap_types.proofs.Laws.{cost_at_most}
use Rattle.interval_walk.proofs.Laws.{analysis_sound}
use Rattle.interval_analysis.specs.Answers.{named_range, AreFailingOperands, IsWalkFaultOrMemory}
use Rattle.interval_analysis.specs.private.StopViews.{range_fault}
use Rattle.interval_analysis.proofs.StopLemmas.{stop_operands, stop_told}
use Rattle.interval_analysis.proofs.analysis.analyse_told.Goals as goal

pub returns-in-Ok-clause-sound : goal.returns-in-Ok-clause-sound
returns-in-Ok-clause-sound c = λ inputs admitted.
    let f = flowchart_of c.args.t.now in
    let ranges = map named_range c.in-Ok.verdict.outputs.items in (
      analysis_sound f c.args.limits.now ranges c.plan-well_typed.ensures.well_typed c.plan-well_typed.ensures.counted c.requires.limits c.in-Ok.ensures.ranges inputs admitted,
      subst (λ n. cost_of f inputs ≤ n) (sym c.in-Ok.ensures.bound) (cost_at_most f inputs),
    )

pub returns-clause-fault : goal.returns-clause-fault
returns-clause-fault c =
    let f = flowchart_of c.args.t.now in
    subst (IsWalkFaultOrMemory f c.args.limits.now) (sym c.refused.ensures.fault) (stop_told f c.args.limits.now c.in-Err.stop c.in-Err.ensures.stop)

pub returns-clause-operands : goal.returns-clause-operands
returns-clause-operands c =
    let f = flowchart_of c.args.t.now in
    let limits = c.args.limits.now in
    let stop = c.in-Err.stop in
    subst (λ fault. AreFailingOperands f limits fault c.refused.result.operands.items) (sym c.refused.ensures.fault)
    (subst (AreFailingOperands f limits (range_fault stop)) (sym c.refused.ensures.operands)
    (stop_operands f limits stop c.in-Err.ensures.stop))
