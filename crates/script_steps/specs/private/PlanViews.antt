-- What is made of the two files of a plan, before it is put or tried.
use Rattle.std.specs.Prelude.{◌≡◌, ℕ, List, Option, Some, string_bytes, ⊤}
use Rattle.outside.specs.Told.{FileMap}
use Rattle.pap_types.specs.Meaning.{bound_of}
use Rattle.pap_plan.specs.declared.refusal.PlanRefusal.{PlanRefusal}
use Rattle.pap_plan.specs.Acceptance.{IsRefusedOrMemory}
use Rattle.pap_plan.specs.AcceptanceClauses.{IsAcceptedAs}
use Rattle.pap_plan.specs.Plans.{flowchart}
use Rattle.plan_answers.specs.Answers.{IsRefusal}
use Rattle.plan_answers.specs.Fronts.{AreFronts, IsMissing}
use Rattle.plan_answers.specs.Lines.{bound_line}
use Rattle.script_steps.specs.private.Replies.{reply_of}
use Rattle.script_steps.specs.declared.plan.Judged.{Judged}
use Rattle.script_steps.specs.declared.plan.Judged.TheVariants.{Accepted, Refused}
use Rattle.script_steps.specs.declared.stop.LineStop.{LineStop}
use Rattle.script_steps.specs.declared.stop.LineStop.TheVariants as stops

-- the plan of these texts, with the line of its bound, or its refusal
abbrev pub IsJudged : List ℕ → List ℕ → Judged → Type 0
IsJudged plan limits (Accepted p bound) =
    IsAcceptedAs plan limits p × (string_bytes bound ≡ bound_line (bound_of (flowchart p)))
IsJudged plan limits (Refused reply) =
    (why : PlanRefusal) × IsRefusedOrMemory plan limits why × IsRefusal plan why (reply_of reply)

-- that of what was read of two files
pub record AreJudged (told : Option FileMap) (plan limits : List ℕ) (judged : Judged) : Type 0 where
  pub plan_front : List ℕ
  pub limits_front : List ℕ
  pub read : (files : FileMap) → told ≡ Some files → AreFronts files plan limits plan_front limits_front
  pub is : IsJudged plan_front limits_front judged

-- the files failed, or memory ran out
abbrev pub IsUnjudged : Option FileMap → List ℕ → List ℕ → Option (List ℕ) → LineStop → Type 0
IsUnjudged told plan limits failed stops.File = IsMissing told plan limits failed
IsUnjudged told plan limits failed stops.Write = ⊥
IsUnjudged told plan limits failed stops.Memory = ⊤
