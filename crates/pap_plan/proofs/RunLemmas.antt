-- What acceptance says of a run.
use Rattle.std.proofs.Common.{◌≡◌, ℕ, ◌≤◌, List, [], ◌∷◌, length, Some, Result, Ok, refl, sym, ap, subst, ◌∙◌, arith}
use Rattle.scaled_decimal.specs.Decimals.{Decimal}
use Rattle.pap_tree.specs.Declarations.{Declaration}
use Rattle.limits_file.specs.declared.slots.Slot.{Slot}
use Rattle.pap_types.specs.Limits.{most_steps}
use Rattle.pap_types.specs.Meaning.{IsSafeFor, outputs_of, cost_of, bound_of}
use Rattle.pap_machine.specs.Code.{Program}
use Rattle.pap_machine.specs.Machine.{Runs, HoldAt, IsSafeCode}
use Rattle.pap_machine.proofs.Laws.{one_end, held_once}
use Rattle.interval_walk.specs.Admission.{AllAdmitted}
use Rattle.interval_walk.specs.Soundness.{AreOutputs}
use Rattle.pap_compiler.specs.Correct.{BehavesOn}
use Rattle.pap_plan.specs.declared.refusal.PlanRefusal.{PlanRefusal}
use Rattle.pap_plan.specs.Acceptance.{Meaning, IsAccepted}
use Rattle.pap_plan.specs.AcceptanceLaws.{RunsToItsEnd}
use Rattle.pap_plan.proofs.AcceptedLaws.{never_fail, small_bounds}
use Rattle.pap_plan.proofs.AnswerLaws.{one}
use Rattle.pap_plan.specs.Plans.{Seen, flowchart, meaning, Admits}
use Rattle.pap_plan.specs.StageRefusals.{IsKeptPlan}

admitted_length : (p : Seen) (ds : List Declaration) (vs : List Decimal) → AllAdmitted p.ranges ds vs → length vs ≡ length ds
admitted_length p [] [] h = refl
admitted_length p [] (v ∷ vs) h = absurd h
admitted_length p (d ∷ ds) [] h = absurd h
admitted_length p (d ∷ ds) (v ∷ vs) h = omega (arith, admitted_length p ds vs h.1)

-- a plan never fails on inputs that it admits
pub to_end : (p : Seen) (most : ℕ) (slots : List Slot) → IsKeptPlan p most slots → (inputs : List Decimal) → Admits p inputs → RunsToItsEnd (meaning p) inputs
to_end p most slots k = never_fail p.plan p.limits (meaning p) k.accepted

-- what a run of the plan's code has
pub record RunIs (p : Seen) (inputs : List Decimal) (count : ℕ) (outputs : List Decimal) : Type 0 where
  pub cost : count ≡ cost_of (flowchart p) inputs
  pub bound : count ≤ bound_of (flowchart p)
  pub meant : outputs_of (flowchart p) inputs ≡ Some outputs
  pub within : AreOutputs (meaning p).outputs outputs

pub behaves : (p : Seen) (most : ℕ) (slots : List Slot) → IsKeptPlan p most slots → (inputs : List Decimal) → Admits p inputs → BehavesOn (flowchart p) p.code inputs
behaves p most slots k inputs h = k.code.behaves inputs (to_end p most slots k inputs h).safe

pub input_count : (p : Seen) (most : ℕ) (slots : List Slot) → IsKeptPlan p most slots → (inputs : List Decimal) → Admits p inputs → length inputs ≡ p.code.inputs
input_count p most slots k inputs h = admitted_length p (flowchart p).inputs inputs h ∙ sym k.code.inputs

some_same : (x y : List Decimal) → Some x ≡ Some y → x ≡ y
some_same x y e = cc

pub run_is : (p : Seen) (most : ℕ) (kept : List Slot) → IsKeptPlan p most kept → (inputs : List Decimal) → Admits p inputs
    → (count : ℕ) (slots outs : List Decimal) → Runs p.code inputs count slots → HoldAt slots p.code.outputs outs → RunIs p inputs count outs
run_is p most kept k inputs h count slots outs r held =
    let end = to_end p most kept k inputs h in
    let b = behaves p most kept k inputs h in
    let e = one_end p.code count (cost_of (flowchart p) inputs) _ slots b.slots r b.runs in
    let same = held_once b.slots p.code.outputs outs b.outputs (subst (λ s. HoldAt s p.code.outputs outs) e.1 held) b.held in
    let meant = b.meant ∙ ap Some (sym same) in
    record {
      cost = e.0;
      bound = subst (λ n. n ≤ bound_of (flowchart p)) (sym e.0) end.cost;
      meant = meant;
      within = subst (AreOutputs (meaning p).outputs) (some_same end.outputs outs (sym end.are ∙ meant)) end.within;
    }

-- ---- the same of a plan as contracts see it, which is what it keeps

pub seen_safe : (v p : Seen) (most : ℕ) (kept : List Slot) → v ≡ p → IsKeptPlan v most kept → (inputs : List Decimal) → Admits p inputs → IsSafeFor (flowchart p) inputs
seen_safe v p most kept e k inputs h = (to_end p most kept (subst (λ s. IsKeptPlan s most kept) e k) inputs h).safe

pub seen_code : (v p : Seen) (code : Program) (most : ℕ) (kept : List Slot) → v ≡ p → code ≡ v.code → IsKeptPlan v most kept → (inputs : List Decimal) → Admits p inputs → IsSafeCode code inputs
seen_code v p code most kept e c k inputs h =
    subst (λ q. IsSafeCode q inputs) (sym (c ∙ ap (λ s. s.code) e)) (behaves p most kept (subst (λ s. IsKeptPlan s most kept) e k) inputs h).safe

pub seen_count : (v p : Seen) (code : Program) (most : ℕ) (kept : List Slot) → v ≡ p → code ≡ v.code → IsKeptPlan v most kept → (inputs : List Decimal) → Admits p inputs → length inputs ≡ code.inputs
seen_count v p code most kept e c k inputs h =
    input_count p most kept (subst (λ s. IsKeptPlan s most kept) e k) inputs h ∙ sym (ap (λ q. q.inputs) (c ∙ ap (λ s. s.code) e))

pub seen_run : (v p : Seen) (code : Program) (most : ℕ) (kept : List Slot) → v ≡ p → code ≡ v.code → IsKeptPlan v most kept → (inputs : List Decimal) → Admits p inputs
    → (count : ℕ) (slots outs : List Decimal) → Runs code inputs count slots → HoldAt slots code.outputs outs → RunIs p inputs count outs
seen_run v p code most kept e c k inputs h count slots outs r held =
    let is = c ∙ ap (λ s. s.code) e in
    run_is p most kept (subst (λ s. IsKeptPlan s most kept) e k) inputs h count slots outs (subst (λ q. Runs q inputs count slots) is r) (subst (λ q. HoldAt slots q.outputs outs) is held)

pub seen_small : (v : Seen) (most : ℕ) (kept : List Slot) → IsKeptPlan v most kept → most ≤ most_steps
seen_small v most kept k = subst (λ n. n ≤ most_steps) (sym k.bound) (small_bounds v.plan v.limits (meaning v) k.accepted)

one_meaning : (m n : Meaning) (a b : Result Meaning PlanRefusal) → a ≡ Ok m → b ≡ Ok n → a ≡ b → m ≡ n
one_meaning m n a b d e same = cc

-- plans of the same texts mean the same
pub seen_same : (v w p q : Seen) (most least : ℕ) (kept held : List Slot) → v ≡ p → w ≡ q → IsKeptPlan v most kept → IsKeptPlan w least held → v.plan ≡ w.plan → v.limits ≡ w.limits → meaning p ≡ meaning q
seen_same v w p q most least kept held e d k h plans limits =
    let plan = sym (ap (λ s. s.plan) e) ∙ plans ∙ ap (λ s. s.plan) d in
    let limit = sym (ap (λ s. s.limits) e) ∙ limits ∙ ap (λ s. s.limits) d in
    let kp = subst (λ s. IsKeptPlan s most kept) e k in
    let hq = subst (λ s. IsKeptPlan s least held) d h in
    let other = subst (λ t. IsAccepted p.plan t (meaning q)) (sym limit) (subst (λ t. IsAccepted t q.limits (meaning q)) (sym plan) hq.accepted) in
    one_meaning (meaning p) (meaning q) (Ok (meaning p)) (Ok (meaning q)) refl refl (one p.plan p.limits (Ok (meaning p)) (Ok (meaning q)) kp.accepted other)
