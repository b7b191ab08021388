-- What contracts see of an accepted plan: its two texts and what they mean.
use Rattle.std.specs.Prelude.{ℕ, List, map}
use Rattle.scaled_decimal.specs.Decimals.{Decimal}
use Rattle.pap_tree.specs.declared.plan.PlanText.{PlanText}
use Rattle.pap_tree.specs.Flowchart.{Flowchart, flowchart_of}
use Rattle.limits_file.specs.declared.limits.Limits.{Limits}
use Rattle.pap_machine.specs.Code.{Program}
use Rattle.interval_walk.specs.Admission.{AreAdmitted}
use Rattle.interval_analysis.specs.Answers.{named_range}
use Rattle.interval_analysis.specs.declared.verdict.OutputRange.{OutputRange}
use Rattle.pap_plan.specs.Acceptance.{Meaning}

-- the bytes of both files, the plan and its limits as they were read, its outputs' ranges and its code
pub record Seen : Type 0 where
  pub plan : List ℕ
  pub limits : List ℕ
  pub text : PlanText
  pub ranges : Limits
  pub outputs : List OutputRange
  pub code : Program

-- what contracts see of a plan, of these parts
abbrev pub seen : List ℕ → List ℕ → PlanText → Limits → List OutputRange → Program → Seen
seen plan limits text ranges outputs code =
    record { plan = plan; limits = limits; text = text; ranges = ranges; outputs = outputs; code = code }

-- the flowchart of an accepted plan
abbrev pub flowchart : Seen → Flowchart
flowchart p = flowchart_of p.text

-- what an accepted plan means
abbrev pub meaning : Seen → Meaning
meaning p = record { flowchart = flowchart p; limits = p.ranges; outputs = map named_range p.outputs }

-- the inputs that a plan runs on: one kept decimal for each declared input, which its limit admits
abbrev pub Admits : Seen → List Decimal → Type 0
Admits p inputs = AreAdmitted (flowchart p) p.ranges inputs
