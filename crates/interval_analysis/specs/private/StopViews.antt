-- What private contracts say of why the walk of a plan stops.
use Rattle.std.specs.Prelude.{◌≡◌, ℕ, List, [], ◌∷◌, map, Option, Some, None, Result, Ok, Err, ⊤, alloc_error}
use Rattle.std.proofs.Common.{Vec, Global}
use Rattle.interval_num.specs.declared.cause.RangeCause.{RangeCause}
use Rattle.interval_num.specs.Intervals.{Interval}
use Rattle.pap_types.specs.Checks.{place}
use Rattle.interval_walk.specs.Failures.{WalkFault, node_fails, output_fails}
use Rattle.interval_walk.specs.Ranges.{Ranges}
use Rattle.interval_analysis.specs.Surveys.{value_range}
use Rattle.interval_analysis.specs.declared.expressions.Stop.{Stop}
use Rattle.interval_analysis.specs.declared.expressions.Stop.TheVariants as stops
use Rattle.interval_analysis.specs.declared.fault.RangeFault.{RangeFault}
use Rattle.interval_analysis.specs.declared.fault.RangeFault.TheVariants as faults
use Rattle.interval_analysis.specs.declared.statements.Spot.{Spot}
use Rattle.interval_analysis.specs.declared.stop.WalkStop.{WalkStop}
use Rattle.interval_analysis.specs.declared.stop.WalkStop.TheVariants as walks
use Rattle.interval_analysis.specs.declared.value_range.ValueRange.{ValueRange}
use Rattle.interval_analysis.specs.declared.verdict.RefusedRanges.{RefusedRanges}

-- the ranges of these that are there
abbrev pub range_list : Option Interval → Option Interval → List Interval
range_list None None = []
range_list (Some a) None = a ∷ []
range_list None (Some b) = b ∷ []
range_list (Some a) (Some b) = a ∷ b ∷ []

-- ---- what is told of the definition's answer; memory is free

-- the definition's answer is this fault, with these ranges of its operands or of its output
abbrev pub IsFaultOf : Result Ranges WalkFault → RangeFault → List ValueRange → Type 0
IsFaultOf r (faults.At p cause) ranges =
    (operands : List Interval) × (r ≡ Err (node_fails p cause operands)) × (map value_range operands ≡ ranges)
IsFaultOf r (faults.Output x) ranges = (a : Interval) × (r ≡ Err (output_fails x a)) × (value_range a ∷ [] ≡ ranges)
IsFaultOf r (faults.Memory e) ranges = ⊥

-- the definition's answer is this stop, or memory ran out
abbrev pub FaultOf : Result Ranges WalkFault → WalkStop → Type 0
FaultOf r (walks.Refused refusal) = IsFaultOf r refusal.value.fault refusal.value.operands.items
FaultOf r walks.Memory = ⊤

-- the definition's answer is the stop of an expression, whose statement stands there
abbrev pub StopsAt : Result Ranges WalkFault → Stop → Spot → Type 0
StopsAt r (stops.At n cause) spot = r ≡ Err (node_fails (place spot.method spot.at n) cause [])
StopsAt r (stops.AtOne n cause a) spot = r ≡ Err (node_fails (place spot.method spot.at n) cause (a ∷ []))
StopsAt r (stops.AtTwo n cause a b) spot = r ≡ Err (node_fails (place spot.method spot.at n) cause (a ∷ b ∷ []))
StopsAt r stops.Memory spot = ⊤

-- a stop tells of whatever answer is that stop of an expression
abbrev pub RefusesAt : Stop → Spot → WalkStop → Type 0
RefusesAt stop spot s = (r : Result Ranges WalkFault) → StopsAt r stop spot → FaultOf r s

-- the refusal of a node of a statement's expression
abbrev pub refused_node : Spot → ℕ → RangeCause → Vec ValueRange Global → RefusedRanges
refused_node spot n cause operands = record { fault = faults.At (place spot.method spot.at n) cause; operands = operands }

-- a stop as callers see it
abbrev pub range_fault : WalkStop → RangeFault
range_fault (walks.Refused refusal) = refusal.value.fault
range_fault walks.Memory = faults.Memory alloc_error

-- the ranges that the walk has there
abbrev pub range_operands : WalkStop → List ValueRange
range_operands (walks.Refused refusal) = refusal.value.operands.items
range_operands walks.Memory = []

-- ---- where memory doesn't run out

-- what holds behind a walk, unless memory ran out in it
abbrev pub StopsWith : WalkStop → Type 0 → Type 0
StopsWith (walks.Refused refusal) P = P
StopsWith walks.Memory P = ⊤

abbrev pub WithMemory : {A : Type 0} → Result A WalkStop → Type 0 → Type 0
WithMemory (Ok a) P = P
WithMemory (Err stop) P = StopsWith stop P

-- what is told of two lists that were walked: the number behind the second, or the stop of the first, or else that of the second; where
-- memory ran out in either, that
abbrev pub IsBehindLists : (before behind told : Result ℕ WalkStop) → Type 0
IsBehindLists (Ok n) behind told = told ≡ behind
IsBehindLists (Err stop) (Err walks.Memory) told = told ≡ Err walks.Memory
IsBehindLists (Err stop) _ told = told ≡ Err stop
