-- What private contracts say of the ranges with which the walk begins.
use Rattle.std.specs.Prelude.{◌≡◌, ℕ, ◌≤◌, ◌≤ℤ◌, List, map}
use Rattle.scaled_decimal.specs.Decimals.{scale_of, numerator_at}
use Rattle.scaled_decimal.specs.Limits.{IsWithinLimit, most_places}
use Rattle.pap_tree.specs.declared.declaration.Declared.{Declared}
use Rattle.pap_tree.specs.declared.plan.PlanText.{PlanText}
use Rattle.pap_tree.specs.Declarations.{Declaration, declaration_of}
use Rattle.pap_tree.specs.Flowchart.{flowchart_of}
use Rattle.limits_file.specs.declared.limits.InputLimit.{InputLimit}
use Rattle.limits_file.specs.declared.limits.Limits.{Limits}
use Rattle.interval_num.specs.Intervals.{Interval}
use Rattle.interval_walk.specs.Analysis.{input_range, first_range, start_ranges}
use Rattle.interval_analysis.specs.private.PlanViews.{IsSized, ranges_in}

abbrev pub declarations : List Declared → List Declaration
declarations ds = map declaration_of ds

-- the ranges of inputs at their limits
abbrev pub limited : Limits → List Declaration → List Interval
limited limits ds = map (λ d. (input_range limits d).range) ds

-- those of variables at what they begin with
abbrev pub begun : List Declaration → List Interval
begun ds = map (λ d. (first_range d).range) ds

-- one range for each variable, those of the start
pub record IsStart (p : PlanText) (limits : Limits) (rs : List Interval) : Type 0 where
  pub sized : IsSized p rs
  pub ranges : ranges_in p rs ≡ start_ranges (flowchart_of p) limits

-- a limit's bounds, which are in order, are within the limit of numerators at so many places
pub record CanSpan (limit : InputLimit) (s_lo s_hi : ℕ) : Type 0 where
  pub scales : s_lo ≤ s_hi
  pub places : s_hi ≤ most_places
  pub low_places : scale_of limit.low ≤ s_hi
  pub high_places : scale_of limit.high ≤ s_hi
  pub low : IsWithinLimit (numerator_at s_hi limit.low)
  pub high : IsWithinLimit (numerator_at s_hi limit.high)
  pub order : numerator_at s_hi limit.low ≤ℤ numerator_at s_hi limit.high
