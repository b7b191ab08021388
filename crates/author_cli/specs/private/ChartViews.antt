-- Refusals for which a page is written.
use Rattle.std.specs.Prelude.{Bool, true, false}
use Rattle.interval_analysis.specs.declared.fault.RangeFault.{RangeFault}
use Rattle.interval_analysis.specs.declared.fault.RangeFault.TheVariants as walks
use Rattle.pap_plan.specs.declared.refusal.PlanRefusal.{PlanRefusal}
use Rattle.pap_plan.specs.declared.refusal.PlanRefusal.TheVariants.{Memory}

-- the refusal is that memory ran out
abbrev pub is_memory : PlanRefusal → Bool
is_memory Memory = true
is_memory _ = false

-- a walk is refused for want of memory
abbrev pub is_memory_fault : RangeFault → Bool
is_memory_fault (walks.Memory e) = true
is_memory_fault _ = false
