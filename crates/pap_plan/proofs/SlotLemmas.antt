-- The slots of the inputs so far.
use Rattle.std.proofs.Common.{◌≡◌, ℕ, Bool, true, false, not, cond, List, [], ◌∷◌, ◌++◌, append-nil, Option, Some, None, refl, sym, ap, subst, ◌∙◌}
use Rattle.std.specs.Prelude.{is_some}
use Rattle.std.specs.List.{find}
use Rattle.std.specs.Option.{option_map}
use Rattle.std.proofs.Math.Seq.{append_snoc}
use Rattle.scaled_decimal.specs.Decimals.{Decimal}
use Rattle.pap_tree.specs.Declarations.{Declaration}
use Rattle.limits_file.specs.declared.limits.InputLimit.{InputLimit}
use Rattle.limits_file.specs.declared.limits.Limits.{Limits}
use Rattle.limits_file.specs.declared.limits.Carry.{Carry}
use Rattle.limits_file.specs.declared.slots.Slot.{Slot}
use Rattle.pap_types.specs.Scopes.{literal_decimal}
use Rattle.limits_file.specs.Limits.{limit_named}
use Rattle.pap_plan.specs.Bindings.{has_limit}
use Rattle.pap_plan.specs.Inputs.{carry_named, IsSlot, AreSlots}

-- these are the slots of the declarations before the ones left
pub record AreSlotsBefore (l : Limits) (all left : List Declaration) (ss : List Slot) : Type 0 where
  pub before : List Declaration
  pub whole : all ≡ before ++ left
  pub slots : AreSlots l before ss

pub no_slots : (l : Limits) (all : List Declaration) → AreSlotsBefore l all all []
no_slots l all = record { before = []; whole = refl; slots = tt }

slots_snoc : (l : Limits) (ds : List Declaration) (ss : List Slot) (d : Declaration) (s : Slot) → AreSlots l ds ss → IsSlot l d s → AreSlots l (ds ++ (d ∷ [])) (ss ++ (s ∷ []))
slots_snoc l [] [] d s h k = (k, tt)
slots_snoc l [] (x ∷ ss) d s h k = absurd h
slots_snoc l (e ∷ ds) [] d s h k = absurd h
slots_snoc l (e ∷ ds) (x ∷ ss) d s h k = (h.0, slots_snoc l ds ss d s h.1 k)

pub one_slot : (l : Limits) (all left : List Declaration) (ss : List Slot) (d : Declaration) (s : Slot) → AreSlotsBefore l all (d ∷ left) ss → IsSlot l d s → AreSlotsBefore l all left (ss ++ (s ∷ []))
one_slot l all left ss d s h k = record {
  before = h.before ++ (d ∷ []);
  whole = h.whole ∙ sym (append_snoc h.before d left);
  slots = slots_snoc l h.before ss d s h.slots k;
}

pub all_slots : (l : Limits) (all left : List Declaration) (ss : List Slot) → left ≡ [] → AreSlotsBefore l all left ss → AreSlots l all ss
all_slots l all left ss e h = subst (λ ds. AreSlots l ds ss) (sym (h.whole ∙ ap (λ r. h.before ++ r) e ∙ append-nil h.before)) h.slots

pub slot_is : (l : Limits) (d : Declaration) (limit : InputLimit) (value : Option Decimal) (carry : Option Carry) → limit_named l d.name ≡ Some limit → value ≡ option_map literal_decimal d.value → carry ≡ carry_named l d.name
    → IsSlot l d (record { name = d.name; kind = d.kind; limit = limit; value = value; carry = carry })
slot_is l d limit value carry e v c = record { name = refl; kind = refl; limit = e; value = v; carry = c }

-- where each input has a limit, the next one does

none_is_some : (x : InputLimit) → None ≡ Some x → ⊥
none_is_some x e = cc

some_is_none : (x : List ℕ) → Some x ≡ None → ⊥
some_is_none x e = cc

next_limited : (l : Limits) (before left : List Declaration) (d : Declaration) → option_map (λ d. d.name) (find (λ d. not (has_limit l d.name)) (before ++ (d ∷ left))) ≡ None → None ≡ limit_named l d.name → ⊥
next_limited l [] left d e k = by (limit_named l d.name) k e
  where
    by : (o : Option InputLimit) → None ≡ o → option_map (λ d. d.name) (cond (not (is_some o)) (Some d) (find (λ d. not (has_limit l d.name)) left)) ≡ None → ⊥
    by None same e = some_is_none d.name e
    by (Some x) same e = none_is_some x same
next_limited l (b ∷ before) left d e k = by (has_limit l b.name) e (next_limited l before left d)
  where
    by : (s : Bool) → option_map (λ d. d.name) (cond (not s) (Some b) (find (λ d. not (has_limit l d.name)) (before ++ (d ∷ left)))) ≡ None
        → (option_map (λ d. d.name) (find (λ d. not (has_limit l d.name)) (before ++ (d ∷ left))) ≡ None → None ≡ limit_named l d.name → ⊥) → ⊥
    by true e r = r e k
    by false e r = some_is_none b.name e

pub never_unlimited : (l : Limits) (all left : List Declaration) (ss : List Slot) (d : Declaration) → AreSlotsBefore l all (d ∷ left) ss
    → option_map (λ d. d.name) (find (λ d. not (has_limit l d.name)) all) ≡ None → None ≡ limit_named l d.name → ⊥
never_unlimited l all left ss d h e = next_limited l h.before left d (subst (λ ds. option_map (λ d. d.name) (find (λ d. not (has_limit l d.name)) ds) ≡ None) h.whole e)
