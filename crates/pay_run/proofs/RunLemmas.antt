-- Laws of one run: its inputs, and its outputs by name.
use Rattle.std.proofs.Common.{◌≡◌, ℕ, ◌+◌, ◌<◌, ◌≤◌, List, [], ◌∷◌, ◌++◌, length, map, take, drop, get_or, refl, sym, ap, subst, ◌∙◌, arith}
use Rattle.std.specs.Prelude.{Some, All}
use Rattle.std.specs.List.{AllByRecursion, filter_map, cons_option}
use Rattle.std.specs.Option.{option_map, option_map_or}
use Rattle.std.proofs.lemmas.List.{take_more, map-append, length-map, length-take, take_all, drop_all, append-nil}
use Rattle.scaled_decimal.specs.Decimals.{Decimal}
use Rattle.scaled_decimal.specs.Limits.{IsKept}
use Rattle.pap_tree.specs.declared.declaration.Declared.{Declared}
use Rattle.pap_tree.specs.Declarations.{Declaration, declaration_of}
use Rattle.limits_file.specs.declared.limits.Limits.{Limits}
use Rattle.limits_file.specs.declared.slots.Slot.{Slot}
use Rattle.limits_file.specs.Limits.{IsWithinBound}
use Rattle.pap_types.specs.Meaning.{outputs_of, cost_of}
use Rattle.pap_types.specs.Limits.{most_steps}
use Rattle.interval_walk.specs.Admission.{HaveLimits}
use Rattle.interval_walk.specs.Ranges.{Ranges}
use Rattle.interval_walk.specs.Soundness.{AreOutputs}
use Rattle.payroll_records.specs.declared.values.NamedValue.{NamedValue}
use Rattle.carry_bindings.specs.declared.carried.Earlier.{Earlier}
use Rattle.carry_bindings.specs.declared.filling.Filled.{Filled}
use Rattle.carry_bindings.specs.declared.filling.Filled.TheVariants as filling
use Rattle.carry_bindings.specs.Conditions.{KeepsFactorLimit}
use Rattle.carry_bindings.specs.Filling.{filled_by}
use Rattle.pap_plan.specs.Acceptance.{Meaning, IsAccepted}
use Rattle.pap_plan.specs.Inputs.{IsSlot, AreSlots}
use Rattle.pap_plan.proofs.Laws.{accepted_limits}
use Rattle.pay_run.specs.Accepted.{Accepted}
use Rattle.pay_run.specs.declared.outputs.Finished.{Finished}
use Rattle.pay_run.specs.Runs.{slot_of, slot_with, filled, named_values, run_outputs, run_cost}
use Rattle.pay_run.specs.RunClauses.{HasRun, Fills, AdmitsFilled}
use Rattle.pay_run.proofs.AdmissionLemmas.{suits_kinds, filled_admitted}

-- ---- the inputs

one_slot : (l : Limits) (d : Declaration) (s : Slot) → IsSlot l d s → slot_of l d ≡ Some s
one_slot l d s h = ap (option_map (slot_with l d)) h.limit ∙ ap Some same
  where
    same : slot_with l d s.limit ≡ s
    same = λ i. record { name = sym h.name i; kind = sym h.kind i; limit = s.limit; value = sym h.value i; carry = sym h.carry i }

pub are_slots : (l : Limits) (ds : List Declaration) (ss : List Slot) → AreSlots l ds ss → filter_map (slot_of l) ds ≡ ss
are_slots l [] [] h = refl
are_slots l [] (s ∷ ss) h = absurd h
are_slots l (d ∷ ds) [] h = absurd h
are_slots l (d ∷ ds) (s ∷ ss) h = ap (λ o. cons_option o (filter_map (slot_of l) ds)) (one_slot l d s h.0) ∙ ap (λ t. s ∷ t) (are_slots l ds ss h.1)

-- the slots of a plan are those that its definition names
pub filled_slots : (p : Accepted) (slots : List Slot) (values : List NamedValue) (earlier : List Earlier) → AreSlots p.meaning.limits p.meaning.flowchart.inputs slots → filled_by slots values earlier ≡ filled p values earlier
unfolding filled
filled_slots p slots values earlier are = ap (λ s. filled_by s values earlier) (sym (are_slots p.meaning.limits p.meaning.flowchart.inputs slots are))

module _ (p : Accepted) (accepted : IsAccepted p.plan p.limits p.meaning) (slots : List Slot) (are : AreSlots p.meaning.limits p.meaning.flowchart.inputs slots) where
  limited : HaveLimits p.meaning.flowchart p.meaning.limits
  limited = accepted_limits p.plan p.limits p.meaning accepted

  pub doubles : AllByRecursion KeepsFactorLimit slots
  doubles = suits_kinds p.meaning.limits p.meaning.flowchart.inputs slots limited are

  -- kept inputs that are filled are admitted
  pub fills_inputs : (values : List NamedValue) (earlier : List Earlier) (inputs : List Decimal) → filling.Inputs inputs ≡ filled_by slots values earlier → All IsKept inputs →
      Fills p (filled p values earlier) (filling.Inputs inputs)
  fills_inputs values earlier inputs e kept = record {
    are = e ∙ filled_slots p slots values earlier are;
    admitted =
        filled_admitted p.meaning.limits p.meaning.flowchart.inputs slots values earlier inputs limited are kept (sym e);
  }

  pub fills_none : (values : List NamedValue) (earlier : List Earlier) (f : Filled) → f ≡ filled_by slots values earlier → AdmitsFilled p f → Fills p (filled p values earlier) f
  fills_none values earlier f e admitted = record { are = e ∙ filled_slots p slots values earlier are; admitted = admitted }

-- ---- the outputs

named_append : (ds : List Declaration) (vs : List Decimal) (d : Declaration) (v : Decimal) → length vs ≡ length ds →
    named_values (ds ++ d ∷ []) (vs ++ v ∷ []) ≡ named_values ds vs ++ record { name = d.name; value = v } ∷ []
named_append [] [] d v e = refl
named_append [] (x ∷ vs) d v e = absurd (omega (arith, e))
named_append (c ∷ ds) [] d v e = absurd (omega (arith, e))
named_append (c ∷ ds) (x ∷ vs) d v e = ap (λ t. record { name = c.name; value = x } ∷ t) (named_append ds vs d v (omega arith))

abbrev pub named : List ℕ → Decimal → NamedValue
named name v = record { name = name; value = v }

pub named_more : (outputs : List Declared) (values : List Decimal) (i : ℕ) (o : Declared) (v : Decimal) → length values ≡ length outputs → o ≡ get_or outputs i o → i < length outputs → v ≡ get_or values i v →
    named_values (map declaration_of (take (i + 1) outputs)) (take (i + 1) values) ≡ named_values (map declaration_of (take i outputs)) (take i values) ++ record { name = o.name; value = v } ∷ []
named_more outputs values i o v same is lt at =
    ap (λ l. named_values (map declaration_of l) (take (i + 1) values)) (take_more outputs i o lt)
    ∙ ap (λ l. named_values (map declaration_of (take i outputs ++ get_or outputs i o ∷ [])) l) (take_more values i v (omega arith))
    ∙ ap (λ l. named_values l (take i values ++ get_or values i v ∷ [])) (map-append declaration_of (take i outputs) (get_or outputs i o ∷ []))
    ∙ named_append (map declaration_of (take i outputs)) (take i values) (declaration_of (get_or outputs i o)) (get_or values i v) (omega (arith, length-map (take i outputs) declaration_of, length-take i outputs, length-take i values))
    ∙ ap (λ (x : Declared). named_values (map declaration_of (take i outputs)) (take i values) ++ named x.name (get_or values i v) ∷ []) (sym is)
    ∙ ap (λ x. named_values (map declaration_of (take i outputs)) (take i values) ++ named o.name x ∷ []) (sym at)

named_bounded : (ds : List Declaration) (rs : Ranges) (vs : List Decimal) → AreOutputs rs vs → AllByRecursion (λ (v : NamedValue). IsWithinBound v.value) (named_values ds vs)
named_bounded [] rs vs h = tt
named_bounded (d ∷ ds) rs [] h = tt
named_bounded (d ∷ ds) [] (v ∷ vs) h = absurd h
named_bounded (d ∷ ds) (r ∷ rs) (v ∷ vs) h = (h.0.bound, named_bounded ds rs vs h.1)

-- where the run is defined its outputs are its values under their names
pub outputs_are : (p : Accepted) (inputs values : List Decimal) → outputs_of p.meaning.flowchart inputs ≡ Some values → named_values p.meaning.flowchart.outputs values ≡ run_outputs p inputs
unfolding run_outputs
outputs_are p inputs values e = sym (ap (λ o. option_map_or (named_values p.meaning.flowchart.outputs) o []) e)

pub cost_is : (p : Accepted) (inputs : List Decimal) → cost_of p.meaning.flowchart inputs ≡ run_cost p inputs
unfolding run_cost
cost_is p inputs = refl

-- a list that was written in its whole length
pub written_whole : (n : ℕ) (out items : List Decimal) → length out ≡ n → length items ≡ n → take n (out ++ drop (length out) items) ≡ out
written_whole n out items h k =
    ap (λ t. take n (out ++ t)) (drop_all (length out) items (omega arith)) ∙ ap (take n) (append-nil out) ∙ take_all n out (omega arith)

-- what a run of the plan gives
pub has_run : (p : Accepted) (inputs values : List Decimal) (f : Finished) (most : ℕ) → outputs_of p.meaning.flowchart inputs ≡ Some values → AreOutputs p.meaning.outputs values → f.cost ≡ cost_of p.meaning.flowchart inputs → f.cost ≤ most → most ≤ most_steps →
    f.outputs ≡ named_values p.meaning.flowchart.outputs values → HasRun p inputs f
has_run p inputs values f most e ranges cost within bound is = record {
  defined = record { values = values; are = e };
  outputs = is ∙ outputs_are p inputs values e;
  cost = cost ∙ cost_is p inputs;
  bounded = subst (λ os. AllByRecursion (λ (v : NamedValue). IsWithinBound v.value) os) (sym is) (named_bounded p.meaning.flowchart.outputs p.meaning.outputs values ranges);
  cheap = omega arith;
}

-- plans that mean the same have the same outputs
pub same_outputs : (p q : Accepted) (inputs : List Decimal) → p.meaning ≡ q.meaning → run_outputs p inputs ≡ run_outputs q inputs
unfolding run_outputs
same_outputs p q inputs e = ap (λ (m : Meaning). option_map_or (named_values m.flowchart.outputs) (outputs_of m.flowchart inputs) []) e
