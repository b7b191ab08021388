-- Refusals with the ranges that belong to them.
use Rattle.std.proofs.Common.{◌≡◌, ◌≢◌, ℕ, List, [], refl, sym, subst}
use Rattle.std.specs.declared.alloc.AllocError.{AllocError}
use Rattle.pap_tree.specs.Flowchart.{Flowchart}
use Rattle.limits_file.specs.declared.limits.Limits.{Limits}
use Rattle.interval_analysis.specs.Answers.{AreFailingOperands, IsWalkFaultOrMemory}
use Rattle.interval_analysis.specs.declared.fault.RangeFault.{RangeFault}
use Rattle.interval_analysis.specs.declared.fault.RangeFault.TheVariants as faults
use Rattle.interval_analysis.specs.declared.value_range.ValueRange.{ValueRange}
use Rattle.pap_plan.specs.Acceptance.{HasBindings, IsRefused, IsRefusedOrMemory}
use Rattle.pap_plan.specs.BoundPlans.{IsBeforeRanges, IsUnboundOrMemory}
use Rattle.pap_plan.specs.Judgements.{AreOperandsOf, IsRefusedPlan}
use Rattle.pap_plan.specs.declared.judgement.RefusedPlan.{RefusedPlan}
use Rattle.pap_plan.specs.declared.refusal.PlanRefusal.{PlanRefusal}
use Rattle.pap_plan.specs.declared.refusal.PlanRefusal.TheVariants as refusals

-- a refusal that isn't want of memory
pub is_refused : (plan limits : List ℕ) (r : PlanRefusal) → r ≢ refusals.Memory → IsRefusedOrMemory plan limits r → IsRefused plan limits r
is_refused plan limits (refusals.Read fault) other h = h
is_refused plan limits (refusals.Expr spot fault) other h = h
is_refused plan limits (refusals.Types fault) other h = h
is_refused plan limits (refusals.Order fault) other h = h
is_refused plan limits (refusals.Limits fault) other h = h
is_refused plan limits (refusals.LimitName name) other h = h
is_refused plan limits (refusals.LimitKind name) other h = h
is_refused plan limits (refusals.Bind name) other h = h
is_refused plan limits (refusals.Range fault) other h = h
is_refused plan limits refusals.Memory other h = absurd (other refl)

-- a refusal, where memory may have run out
pub refused_or : (plan limits : List ℕ) (r : PlanRefusal) → IsRefused plan limits r → IsRefusedOrMemory plan limits r
refused_or plan limits (refusals.Read fault) h = h
refused_or plan limits (refusals.Expr spot fault) h = h
refused_or plan limits (refusals.Types fault) h = h
refused_or plan limits (refusals.Order fault) h = h
refused_or plan limits (refusals.Limits fault) h = h
refused_or plan limits (refusals.LimitName name) h = h
refused_or plan limits (refusals.LimitKind name) h = h
refused_or plan limits (refusals.Bind name) h = h
refused_or plan limits (refusals.Range fault) h = h
refused_or plan limits refusals.Memory h = absurd h

-- before the walk there are no ranges
without_ranges : (plan limits : List ℕ) (r : PlanRefusal) (operands : List ValueRange) → IsBeforeRanges r → operands ≡ [] → AreOperandsOf plan limits r operands
without_ranges plan limits (refusals.Read fault) operands early none = none
without_ranges plan limits (refusals.Expr spot fault) operands early none = none
without_ranges plan limits (refusals.Types fault) operands early none = none
without_ranges plan limits (refusals.Order fault) operands early none = none
without_ranges plan limits (refusals.Limits fault) operands early none = none
without_ranges plan limits (refusals.LimitName name) operands early none = none
without_ranges plan limits (refusals.LimitKind name) operands early none = none
without_ranges plan limits (refusals.Bind name) operands early none = none
without_ranges plan limits (refusals.Range fault) operands early none = absurd early
without_ranges plan limits refusals.Memory operands early none = none

-- two texts that are refused before the walk
pub refused_early : (plan limits : List ℕ) (r : RefusedPlan) → r.refusal ≢ refusals.Memory → IsUnboundOrMemory plan limits r.refusal
    → r.operands.items ≡ [] → IsRefusedPlan plan limits r
refused_early plan limits r other h none = record {
  refused = is_refused plan limits r.refusal other h.refused;
  operands = without_ranges plan limits r.refusal r.operands.items h.early none;
}

is_range : (plan limits : List ℕ) (fault : RangeFault) (f : Flowchart) (l : Limits) → HasBindings plan limits f l → ((e : AllocError) → fault ≢ faults.Memory e)
    → IsWalkFaultOrMemory f l fault → IsRefused plan limits (refusals.Range fault)
is_range plan limits (faults.At place cause) f l bound other h = (f, (l, bound, h))
is_range plan limits (faults.Output name) f l bound other h = (f, (l, bound, h))
is_range plan limits (faults.Memory e) f l bound other h = absurd (other e refl)

-- and such as are refused by it
pub refused_by_walk : (plan limits : List ℕ) (fault : RangeFault) (r : RefusedPlan) (f : Flowchart) (l : Limits) → r.refusal ≡ refusals.Range fault
    → HasBindings plan limits f l → ((e : AllocError) → fault ≢ faults.Memory e) → IsWalkFaultOrMemory f l fault
    → AreFailingOperands f l fault r.operands.items → IsRefusedPlan plan limits r
refused_by_walk plan limits fault r f l is bound other h are = record {
  refused = subst (IsRefused plan limits) (sym is) (is_range plan limits fault f l bound other h);
  operands =
      subst (λ x. AreOperandsOf plan limits x r.operands.items) (sym is)
      (record { flowchart = f; ranges = l; bound = bound; are = are });
}
