-- What private contracts say of the outputs.
use Rattle.std.specs.Prelude.{◌≡◌, ℕ, List, map, Result, Ok, Err}
use Rattle.pap_tree.specs.declared.declaration.Declared.{Declared}
use Rattle.pap_tree.specs.declared.plan.PlanText.{PlanText}
use Rattle.pap_tree.specs.Flowchart.{flowchart_of}
use Rattle.interval_num.specs.Intervals.{Interval}
use Rattle.interval_walk.specs.Analysis.{output_ranges, unless_unbounded}
use Rattle.interval_walk.specs.Ranges.{Ranges}
use Rattle.interval_walk.specs.Failures.{WalkFault}
use Rattle.interval_analysis.specs.Answers.{named_range}
use Rattle.interval_analysis.specs.private.PlanViews.{ranges_in, with_names}
use Rattle.interval_analysis.specs.private.StopViews.{FaultOf}
use Rattle.interval_analysis.specs.declared.stop.WalkStop.{WalkStop}
use Rattle.interval_analysis.specs.declared.verdict.OutputRange.{OutputRange}
use Rattle.std.proofs.Common.{Vec, Global}

abbrev pub output_names : List Declared → List (List ℕ)
output_names ds = map (λ d. d.name) ds

-- declared outputs with ranges, or the first that may be beyond its bound
abbrev pub bounded_outputs : List Declared → List Interval → Result Ranges WalkFault
bounded_outputs ds rs = unless_unbounded (with_names (output_names ds) rs)

-- the same of the outputs of a plan, from the ranges of all variables
abbrev pub outputs_in : PlanText → List Interval → Result Ranges WalkFault
outputs_in p rs = unless_unbounded (output_ranges (flowchart_of p) (ranges_in p rs))

-- the definition's answer, as the program gives it; memory is free
abbrev pub OutputAnswer : Result Ranges WalkFault → Result (Vec OutputRange Global) WalkStop → Type 0
OutputAnswer r (Ok v) = r ≡ Ok (map named_range v.items)
OutputAnswer r (Err stop) = FaultOf r stop
