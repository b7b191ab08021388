use Rattle.std.proofs.Common.{map, subst}
use Rattle.pap_tree.specs.Flowchart.{flowchart_of}
use Rattle.pap_types.specs.Scopes.{scope_of}
use Rattle.interval_walk.specs.Visits.{WalkComes}
use Rattle.interval_walk.proofs.Laws.{executed_visited}
use Rattle.interval_analysis.specs.Answers.{named_range}
use Rattle.interval_analysis.specs.Surveys.{AreReached, AreLeastRanges, AreOpen}
use Rattle.interval_analysis.specs.private.StopViews.{StopsWith}
use Rattle.interval_analysis.specs.private.VisitViews.{GathersIn, survey_known, refused_known}
use Rattle.interval_analysis.proofs.StopLemmas.{unless_memory}
use Rattle.interval_analysis.proofs.VisitLemmas.{some_known, all_found, found_reached, found_value, found_exit}
use Rattle.interval_analysis.proofs.analysis.survey.Goals as goal

pub survey_of-requires : goal.survey_of-requires
survey_of-requires c =
    let f = flowchart_of c.args.t.now in
    let limits = c.args.limits.now in
    some_known (scope_of f) (WalkComes f limits) c.new-visits.result.known c.judged.new.visits.known c.new-visits.ensures c.in-Ok.ensures.visits

pub returns-in-Ok-clause-reached : goal.returns-in-Ok-clause-reached
returns-in-Ok-clause-reached c =
    let f = flowchart_of c.args.t.now in
    let limits = c.args.limits.now in
    (all_found (scope_of f) (WalkComes f limits) c.new-visits.result.known c.judged.new.visits.known (survey_known c.survey_of.result) c.new-visits.ensures c.in-Ok.ensures.visits c.survey_of.ensures.known).reached

pub returns-in-Ok-clause-values : goal.returns-in-Ok-clause-values
returns-in-Ok-clause-values c =
    let f = flowchart_of c.args.t.now in
    let limits = c.args.limits.now in
    (all_found (scope_of f) (WalkComes f limits) c.new-visits.result.known c.judged.new.visits.known (survey_known c.survey_of.result) c.new-visits.ensures c.in-Ok.ensures.visits c.survey_of.ensures.known).values

pub returns-in-Ok-clause-exits : goal.returns-in-Ok-clause-exits
returns-in-Ok-clause-exits c =
    let f = flowchart_of c.args.t.now in
    let limits = c.args.limits.now in
    (all_found (scope_of f) (WalkComes f limits) c.new-visits.result.known c.judged.new.visits.known (survey_known c.survey_of.result) c.new-visits.ensures c.in-Ok.ensures.visits c.survey_of.ensures.known).exits

pub returns-in-Ok-clause-sound : goal.returns-in-Ok-clause-sound
returns-in-Ok-clause-sound c = λ inputs admitted.
    let f = flowchart_of c.args.t.now in
    let limits = c.args.limits.now in
    let ranges = map named_range c.in-Ok.verdict.outputs.items in
    let s = c.survey_of.result in
    let k = survey_known s in
    let found = all_found (scope_of f) (WalkComes f limits) c.new-visits.result.known c.judged.new.visits.known k c.new-visits.ensures c.in-Ok.ensures.visits c.survey_of.ensures.known in
    let visited = executed_visited f limits ranges c.plan-well_typed.ensures.well_typed c.plan-well_typed.ensures.counted c.requires.limits c.in-Ok.ensures.ranges inputs admitted in (
      λ x executed. found_reached (scope_of f) (WalkComes f limits) k found x (visited x executed),
      λ x d executed put. found_value (scope_of f) (WalkComes f limits) k found x (visited x executed) d put,
      λ x holds executed taken. found_exit (scope_of f) (WalkComes f limits) k found x (visited x executed) holds taken,
    )

pub returns-in-Err-Refused-clause-refused_reached : goal.returns-in-Err-Refused-clause-refused_reached
returns-in-Err-Refused-clause-refused_reached c =
    let f = flowchart_of c.args.t.now in
    let limits = c.args.limits.now in
    let r = c.refused_survey.result in
    unless_memory r.fault (AreReached f limits r.reached)
    (all_found (scope_of f) (WalkComes f limits) c.new-visits.result.known c.judged.new.visits.known (refused_known r) c.new-visits.ensures
    (subst (λ s. StopsWith s (GathersIn (scope_of f) (WalkComes f limits) c.new-visits.result.known c.judged.new.visits.known)) c.in-Err-Refused.field-0-is c.in-Err-Refused.ensures.visits)
    c.refused_survey.ensures.known).reached

pub returns-in-Err-Refused-clause-refused_values : goal.returns-in-Err-Refused-clause-refused_values
returns-in-Err-Refused-clause-refused_values c =
    let f = flowchart_of c.args.t.now in
    let limits = c.args.limits.now in
    let r = c.refused_survey.result in
    unless_memory r.fault (AreLeastRanges f limits r.values)
    (all_found (scope_of f) (WalkComes f limits) c.new-visits.result.known c.judged.new.visits.known (refused_known r) c.new-visits.ensures
    (subst (λ s. StopsWith s (GathersIn (scope_of f) (WalkComes f limits) c.new-visits.result.known c.judged.new.visits.known)) c.in-Err-Refused.field-0-is c.in-Err-Refused.ensures.visits)
    c.refused_survey.ensures.known).values

pub returns-in-Err-Refused-clause-refused_exits : goal.returns-in-Err-Refused-clause-refused_exits
returns-in-Err-Refused-clause-refused_exits c =
    let f = flowchart_of c.args.t.now in
    let limits = c.args.limits.now in
    let r = c.refused_survey.result in
    unless_memory r.fault (AreOpen f limits r.exits)
    (all_found (scope_of f) (WalkComes f limits) c.new-visits.result.known c.judged.new.visits.known (refused_known r) c.new-visits.ensures
    (subst (λ s. StopsWith s (GathersIn (scope_of f) (WalkComes f limits) c.new-visits.result.known c.judged.new.visits.known)) c.in-Err-Refused.field-0-is c.in-Err-Refused.ensures.visits)
    c.refused_survey.ensures.known).exits
