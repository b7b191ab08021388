-- What the analysis answers.
use Rattle.std.specs.Prelude.{◌≡◌, List, [], ◌∷◌, map, Err, ⊤}
use Rattle.pap_tree.specs.Flowchart.{Flowchart}
use Rattle.limits_file.specs.declared.limits.Limits.{Limits}
use Rattle.interval_num.specs.Intervals.{Interval}
use Rattle.interval_walk.specs.Ranges.{NamedRange}
use Rattle.interval_walk.specs.Failures.{node_fails, output_fails}
use Rattle.interval_walk.specs.Analysis.{analysed}
use Rattle.interval_analysis.specs.declared.verdict.OutputRange.{OutputRange}
use Rattle.interval_analysis.specs.declared.fault.RangeFault.{RangeFault}
use Rattle.interval_analysis.specs.declared.fault.RangeFault.TheVariants as faults
use Rattle.interval_analysis.specs.declared.value_range.ValueRange.{ValueRange}
use Rattle.interval_analysis.specs.Surveys.{value_range}

-- an output's range with its name, as the walk has it
abbrev pub named_range : OutputRange → NamedRange
named_range o = record { name = o.name; range = o.range }

-- the walk of a plan fails there, for that cause; memory that ran out isn't a failure of the walk
abbrev pub IsWalkFault : Flowchart → Limits → RangeFault → Type 0
IsWalkFault f limits (faults.At place cause) =
    (operands : List Interval) × (analysed f limits ≡ Err (node_fails place cause operands))
IsWalkFault f limits (faults.Output name) = (range : Interval) × (analysed f limits ≡ Err (output_fails name range))
IsWalkFault f limits (faults.Memory e) = ⊥

-- why the analysis refuses a plan: the walk fails there, or memory ran out, which may be at any plan
abbrev pub IsWalkFaultOrMemory : Flowchart → Limits → RangeFault → Type 0
IsWalkFaultOrMemory f limits (faults.Memory e) = ⊤
IsWalkFaultOrMemory f limits other = IsWalkFault f limits other

-- the ranges that the operands of the failing node have there, from the left, or that of the failing output at the end
abbrev pub AreFailingOperands : Flowchart → Limits → RangeFault → List ValueRange → Type 0
AreFailingOperands f limits (faults.At place cause) ranges =
    (operands : List Interval) × (analysed f limits ≡ Err (node_fails place cause operands))
    × (map value_range operands ≡ ranges)
AreFailingOperands f limits (faults.Output name) ranges =
    (range : Interval) × (analysed f limits ≡ Err (output_fails name range)) × (value_range range ∷ [] ≡ ranges)
AreFailingOperands f limits (faults.Memory e) ranges = ranges ≡ []

-- what holds of a fault, unless it is that memory ran out
abbrev pub UnlessMemory : RangeFault → Type 0 → Type 0
UnlessMemory (faults.At place cause) P = P
UnlessMemory (faults.Output name) P = P
UnlessMemory (faults.Memory e) P = ⊤
