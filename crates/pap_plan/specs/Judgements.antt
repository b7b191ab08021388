-- What is told of the two texts of a plan when they are judged: the plan, or why they are refused, with the ranges that the walk over its
-- values has where it stops.
use Rattle.std.specs.Prelude.{◌≡◌, ℕ, List, []}
use Rattle.pap_tree.specs.Flowchart.{Flowchart}
use Rattle.limits_file.specs.declared.limits.Limits.{Limits}
use Rattle.interval_analysis.specs.Answers.{AreFailingOperands}
use Rattle.interval_analysis.specs.declared.fault.RangeFault.{RangeFault}
use Rattle.interval_analysis.specs.declared.value_range.ValueRange.{ValueRange}
use Rattle.pap_plan.specs.declared.judgement.Judgement.{Judgement}
use Rattle.pap_plan.specs.declared.judgement.Judgement.TheVariants as judgements
use Rattle.pap_plan.specs.declared.judgement.RefusedPlan.{RefusedPlan}
use Rattle.pap_plan.specs.declared.refusal.PlanRefusal.{PlanRefusal}
use Rattle.pap_plan.specs.declared.refusal.PlanRefusal.TheVariants as refusals
use Rattle.pap_plan.specs.Acceptance.{HasBindings, IsRefused}
use Rattle.pap_plan.specs.AcceptanceClauses.{IsAcceptedAs}

-- the ranges that the walk of these two texts' plan has where it fails so: of the operands, from the left, or of the output
pub record AreRefusedOperands (plan limits : List ℕ) (fault : RangeFault) (operands : List ValueRange) : Type 0 where
  pub flowchart : Flowchart
  pub ranges : Limits
  pub bound : HasBindings plan limits flowchart ranges
  pub are : AreFailingOperands flowchart ranges fault operands

-- the ranges that belong to a refusal of these two texts: those of its walk, and at another stage none
abbrev pub AreOperandsOf : List ℕ → List ℕ → PlanRefusal → List ValueRange → Type 0
AreOperandsOf plan limits (refusals.Range fault) operands = AreRefusedOperands plan limits fault operands
AreOperandsOf plan limits refusal operands = operands ≡ []

-- the texts are refused so, and the ranges belong to that
pub record IsRefusedPlan (plan limits : List ℕ) (r : RefusedPlan) : Type 0 where
  pub refused : IsRefused plan limits r.refusal
  pub operands : AreOperandsOf plan limits r.refusal r.operands.items

-- the texts are accepted, and this is their plan; or they are refused so
abbrev pub IsJudgementOf : List ℕ → List ℕ → Judgement → Type 0
IsJudgementOf plan limits (judgements.Accepted p) = IsAcceptedAs plan limits p
IsJudgementOf plan limits (judgements.Refused r) = IsRefusedPlan plan limits r
