-- What is written of a run on the bytes of a plan and of a range file.
use Rattle.std.specs.Prelude.{◌≡◌, ℕ, List, [], ◌++◌, codes, false, Result, Ok, Err, Some}
use Rattle.scaled_decimal.specs.Decimals.{Decimal}
use Rattle.pap_tree.specs.Flowchart.{Flowchart}
use Rattle.pap_types.specs.Meaning.{outputs_of, cost_of}
use Rattle.payroll_records.specs.declared.values.NamedValue.{NamedValue}
use Rattle.carry_bindings.specs.declared.filling.Blocked.TheVariants as blocked
use Rattle.carry_bindings.specs.declared.filling.Filled.{Filled}
use Rattle.carry_bindings.specs.declared.filling.Filled.TheVariants.{Inputs, State}
use Rattle.pap_plan.specs.declared.refusal.PlanRefusal.{PlanRefusal}
use Rattle.pap_plan.specs.Acceptance.{Meaning, AcceptanceSays}
use Rattle.pay_run.specs.Accepted.{Accepted}
use Rattle.pay_run.specs.Runs.{filled}
use Rattle.plan_answers.specs.Answers.{Answer, refusal, IsRefusal}
use Rattle.pap_cli.specs.RunLines.{value_lines, steps_line}

-- the outputs of a run and its steps
abbrev pub finished : Flowchart → List Decimal → ℕ → Answer
finished f outputs steps = record {
  text = value_lines f.outputs outputs ++ steps_line steps;
  refused = false;
  steps = steps;
}

-- the answer of a run on filled inputs, or why it has none; a run without earlier ones waits for none
abbrev pub IsRunOn : Flowchart → Filled → Answer → Type 0
IsRunOn f (Inputs inputs) answer =
    (outputs : List Decimal) × (outputs_of f inputs ≡ Some outputs) × (answer ≡ finished f outputs (cost_of f inputs))
IsRunOn f (State (blocked.Unknown name)) answer = answer ≡ refusal (codes "state unknown " ++ name)
IsRunOn f (State (blocked.Missing name)) answer = answer ≡ refusal (codes "state missing " ++ name)
IsRunOn f (State (blocked.Range name)) answer = answer ≡ refusal (codes "state range " ++ name)
IsRunOn f (State (blocked.Waits day)) answer = ⊥

-- an accepted plan is run on these values as the book runs it, without earlier runs; else the plan is refused
abbrev pub IsOnce : List NamedValue → List ℕ → List ℕ → Result Meaning PlanRefusal → Answer → Type 0
IsOnce values plan limits (Ok m) answer =
    let p : Accepted = record { plan = plan; limits = limits; meaning = m } in
    IsRunOn m.flowchart (filled p values []) answer
IsOnce values plan limits (Err r) answer = IsRefusal plan r answer

-- the answer of `once` with these values on two texts
pub record OnceAnswers (values : List NamedValue) (plan limits : List ℕ) (answer : Answer) : Type 0 where
  pub verdict : Result Meaning PlanRefusal
  pub accepted : AcceptanceSays plan limits verdict
  pub is : IsOnce values plan limits verdict answer
