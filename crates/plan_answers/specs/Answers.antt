-- What is written on the bytes of a plan and of a range file, and how it is refused.
use Rattle.std.specs.Prelude.{◌≡◌, ℕ, List, ◌++◌, Bool, true, false, Result, Ok, Err}
use Rattle.pap_types.specs.Meaning.{bound_of}
use Rattle.pap_plan.specs.declared.refusal.PlanRefusal.{PlanRefusal}
use Rattle.pap_plan.specs.Acceptance.{Meaning, AcceptanceSays}
use Rattle.plan_answers.specs.Lines.{bound_line, range_lines, refusal_line}
use Rattle.plan_answers.specs.Refusals.{HasDetail}

-- what is written, whether it is a refusal, and the steps of the run
pub record Answer : Type 0 where
  pub text : List ℕ
  pub refused : Bool
  pub steps : ℕ

-- a refusal: one line, and no steps
abbrev pub refusal : List ℕ → Answer
refusal detail = record { text = refusal_line detail; refused = true; steps = 0 }

-- the answer is the line of this refusal
pub record IsRefusal (plan : List ℕ) (r : PlanRefusal) (answer : Answer) : Type 0 where
  pub detail : List ℕ
  pub has : HasDetail plan r detail
  pub is : answer ≡ refusal detail

-- ---- check

-- the bound of an accepted plan and the ranges of its outputs; nothing is run
abbrev pub acceptance : Meaning → Answer
acceptance m = record {
  text = bound_line (bound_of m.flowchart) ++ range_lines m.outputs;
  refused = false;
  steps = 0;
}

-- the answer is that of `check` on this verdict: the bound and the ranges, or the refusal's line
abbrev pub IsChecked : List ℕ → Result Meaning PlanRefusal → Answer → Type 0
IsChecked plan (Ok m) answer = answer ≡ acceptance m
IsChecked plan (Err r) answer = IsRefusal plan r answer

-- the answer of `check` on two texts
pub record CheckAnswers (plan limits : List ℕ) (answer : Answer) : Type 0 where
  pub verdict : Result Meaning PlanRefusal
  pub accepted : AcceptanceSays plan limits verdict
  pub is : IsChecked plan verdict answer
