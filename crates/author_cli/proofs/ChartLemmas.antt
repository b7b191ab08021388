-- The page of a plan from what the calls below promise.
use Rattle.std.proofs.Common.{◌≡◌, ◌∙◌, refl, sym, ap, subst, false, true, ℕ, List}
use Rattle.std.specs.Prelude.{Option, Some, Ok}
use Rattle.std.proofs.lemmas.Bool.{true≢false}
use Rattle.pap_tree.specs.Flowchart.{Flowchart}
use Rattle.limits_file.specs.declared.limits.Limits.{Limits}
use Rattle.interval_analysis.specs.declared.fault.RangeFault.{RangeFault}
use Rattle.interval_analysis.specs.declared.fault.RangeFault.TheVariants as walks
use Rattle.interval_analysis.specs.declared.value_range.ValueRange.{ValueRange}
use Rattle.interval_analysis.specs.declared.verdict.RefusedSurvey.{RefusedSurvey}
use Rattle.interval_analysis.specs.Answers.{AreFailingOperands, IsWalkFault, IsWalkFaultOrMemory, UnlessMemory}
use Rattle.interval_analysis.specs.Surveys.{AreReached, AreLeastRanges, AreOpen}
use Rattle.interval_walk.specs.Ranges.{Ranges}
use Rattle.interval_walk.specs.Analysis.{analysed}
use Rattle.pap_plan.specs.declared.refusal.PlanRefusal.{PlanRefusal}
use Rattle.pap_plan.specs.declared.refusal.PlanRefusal.TheVariants as refusals
use Rattle.pap_plan.specs.Acceptance.{HasBindings, IsRefused}
use Rattle.pap_plan.specs.BoundPlans.{IsUnboundOrMemory}
use Rattle.plain_words.specs.Places.{NamedText}
use Rattle.flowchart_methods.specs.Marks.{Marked}
use Rattle.flowchart_page.specs.Pages.{IsRunPage}
use Rattle.flowchart_page.specs.Runs.{all_runs}
use Rattle.flowchart_page.specs.Verdicts.{IsJudged}
use Rattle.range_marks.specs.RangeMarks.{FailingAt, WalkFindings, failing_in, refused_findings, AreFindings, IsFailingAt, AreRefusedFindings, range_marks}
use Rattle.range_marks.specs.InternalRanges.{AreInternalRanges}
use Rattle.author_cli.specs.Answers.{Answer, IsChart, ShowsRanges, ChartsAccepted, refused_runs, ShowsRefused, ShowsRefusal, ChartsRefused}
use Rattle.author_cli.specs.private.ChartViews.{is_memory, is_memory_fault}

-- the page with these marks, and with these ranges of the internals
pub ranges_shown : (plan limits : NamedText) (f : Flowchart) (l : Limits) (w : WalkFindings) (marks : List (List Marked))
    (internals : List (List ℕ)) (answer : Answer) → AreFindings f l w → marks ≡ range_marks f w → AreInternalRanges f w internals
    → IsRunPage (Some (all_runs marks internals)) plan.bytes (Some limits.bytes) answer.reason answer.text
    → IsJudged plan (Some limits) answer.reason → ShowsRanges plan limits f l answer
ranges_shown plan limits f l w marks internals answer are is are_internals page judged = record {
  findings = w;
  are_findings = are;
  internals = internals;
  are_internals = are_internals;
  page = subst (λ ms. IsRunPage (Some (all_runs ms internals)) plan.bytes (Some limits.bytes) answer.reason answer.text) is page;
  judged = judged;
}

-- a plan whose walk passes is accepted
pub chart_accepted : (plan limits : NamedText) (f : Flowchart) (l : Limits) (outputs : Ranges) (answer : Answer)
    → HasBindings plan.bytes limits.bytes f l → analysed f l ≡ Ok outputs → ShowsRanges plan limits f l answer
    → ChartsAccepted plan limits answer
chart_accepted plan limits f l outputs answer bound walked shows = record {
  meaning = record { flowchart = f; limits = l; outputs = outputs };
  accepted = record { bound = bound; walked = walked };
  shows = shows;
}

-- the page of a plan that is refused before its ranges are judged, and not for lack of memory
pub chart_refused : (plan limits : NamedText) (r : PlanRefusal) (answer : Answer) → IsUnboundOrMemory plan.bytes limits.bytes r
    → is_memory r ≡ false → IsChart plan (Some limits) answer → ChartsRefused r plan limits answer
chart_refused plan limits refusals.Memory answer h other page = absurd (true≢false other)
chart_refused plan limits (refusals.Read fault) answer h other page = record { refused = h.refused; shows = page }
chart_refused plan limits (refusals.Expr spot fault) answer h other page = record { refused = h.refused; shows = page }
chart_refused plan limits (refusals.Types fault) answer h other page = record { refused = h.refused; shows = page }
chart_refused plan limits (refusals.Order fault) answer h other page = record { refused = h.refused; shows = page }
chart_refused plan limits (refusals.Limits fault) answer h other page = record { refused = h.refused; shows = page }
chart_refused plan limits (refusals.LimitName name) answer h other page = record { refused = h.refused; shows = page }
chart_refused plan limits (refusals.LimitKind name) answer h other page = record { refused = h.refused; shows = page }
chart_refused plan limits (refusals.Bind name) answer h other page = record { refused = h.refused; shows = page }
chart_refused plan limits (refusals.Range fault) answer h other page = absurd h.early

-- ---- the walk is refused

walk_fault : (f : Flowchart) (l : Limits) (fault : RangeFault) → IsWalkFaultOrMemory f l fault → is_memory_fault fault ≡ false
    → IsWalkFault f l fault
walk_fault f l (walks.Memory e) h other = absurd (true≢false other)
walk_fault f l (walks.At p cause) h other = h
walk_fault f l (walks.Output x) h other = h

without_memory : (P : Type 0) (fault : RangeFault) → is_memory_fault fault ≡ false → UnlessMemory fault P → P
without_memory P (walks.Memory e) other h = absurd (true≢false other)
without_memory P (walks.At p cause) other h = h
without_memory P (walks.Output x) other h = h

stops_at : (f : Flowchart) (l : Limits) (fault : RangeFault) (operands : List ValueRange) → is_memory_fault fault ≡ false
    → AreFailingOperands f l fault operands → IsFailingAt f l fault (failing_in fault operands)
stops_at f l (walks.Memory e) operands other h = absurd (true≢false other)
stops_at f l (walks.At p cause) operands other h = (refl, refl, h)
stops_at f l (walks.Output x) operands other h = tt

-- what a walk found that is refused, and not for lack of memory
pub refused_found : (f : Flowchart) (l : Limits) (r : RefusedSurvey) → is_memory_fault r.fault ≡ false
    → AreFailingOperands f l r.fault r.operands.items → UnlessMemory r.fault (AreReached f l r.reached)
    → UnlessMemory r.fault (AreLeastRanges f l r.values) → UnlessMemory r.fault (AreOpen f l r.exits)
    → AreRefusedFindings f l r.fault (refused_findings r)
refused_found f l r other operands reached values exits = record {
  reached = without_memory (AreReached f l r.reached) r.fault other reached;
  values = without_memory (AreLeastRanges f l r.values) r.fault other values;
  exits = without_memory (AreOpen f l r.exits) r.fault other exits;
  stops = stops_at f l r.fault r.operands.items other operands;
}

-- the page with the marks of that
pub refused_shown : (plan limits : NamedText) (f : Flowchart) (l : Limits) (fault : RangeFault) (w : WalkFindings) (failing : Option FailingAt)
    (marks : List (List Marked)) (answer : Answer) → AreRefusedFindings f l fault w → failing ≡ w.failing → marks ≡ range_marks f w
    → IsRunPage (Some (refused_runs failing marks)) plan.bytes (Some limits.bytes) answer.reason answer.text
    → IsJudged plan (Some limits) answer.reason → ShowsRefused plan limits f l fault answer
refused_shown plan limits f l fault w failing marks answer are stops is page judged = record {
  findings = w;
  are_findings = are;
  page =
      subst (λ o. IsRunPage (Some (refused_runs o (range_marks f w))) plan.bytes (Some limits.bytes) answer.reason answer.text) stops
      (subst (λ ms. IsRunPage (Some (refused_runs failing ms)) plan.bytes (Some limits.bytes) answer.reason answer.text) is page);
  judged = judged;
}

-- a plan whose walk is refused is refused for that
pub chart_walked : (plan limits : NamedText) (f : Flowchart) (l : Limits) (fault : RangeFault) (answer : Answer)
    → HasBindings plan.bytes limits.bytes f l → IsWalkFaultOrMemory f l fault → is_memory_fault fault ≡ false
    → ShowsRefused plan limits f l fault answer → ChartsRefused (refusals.Range fault) plan limits answer
chart_walked plan limits f l fault answer bound told other shows = record {
  refused = (f, (l, bound, walk_fault f l fault told other));
  shows = record { flowchart = f; ranges = l; bound = bound; shows = shows };
}
