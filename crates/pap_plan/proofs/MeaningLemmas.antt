-- What holds of accepted texts: their inputs, and every run on inputs that they admit.
use Rattle.std.proofs.Common.{◌≡◌, ℕ, List, [], ◌∷◌, Option, Some, refl, sym, ap, ◌∙◌}
use Rattle.std.specs.List.{All}
use Rattle.std.specs.Option.{option_map}
use Rattle.std.proofs.lemmas.List.Elements.{All-head, All-tail}
use Rattle.scaled_decimal.specs.Decimals.{Decimal}
use Rattle.pap_tree.specs.declared.declaration.Kind.{Kind}
use Rattle.pap_tree.specs.Declarations.{Declaration}
use Rattle.pap_tree.specs.Flowchart.{Flowchart}
use Rattle.limits_file.specs.declared.limits.InputLimit.{InputLimit}
use Rattle.limits_file.specs.declared.limits.Limits.{Limits}
use Rattle.limits_file.specs.declared.limits.Carry.{Carry}
use Rattle.limits_file.specs.declared.slots.Slot.{Slot}
use Rattle.pap_types.specs.Scopes.{literal_decimal}
use Rattle.interval_walk.specs.Admission.{HaveLimits}
use Rattle.pap_plan.specs.Acceptance.{Meaning, HasBindings, IsAccepted}
use Rattle.pap_plan.specs.Bindings.{HasSuitedLimit}
use Rattle.pap_plan.specs.Inputs.{carry_named, IsSlot, AreSlots}
use Rattle.pap_plan.proofs.AcceptLemmas.{have_limits}
use Rattle.pap_plan.proofs.LimitLemmas.{file_sound}
use Rattle.pap_plan.proofs.LiteralLemmas.{HasKeptValue, values_kept}

-- each input has a limit, with sound bounds, that suits its type
pub judged_limits : (plan limits : List ℕ) (f : Flowchart) (l : Limits) → HasBindings plan limits f l → HaveLimits f l
judged_limits plan limits f l h =
    let s = h.suited in
    have_limits f l (record { names = s.named.matching; suited = s.suited; bound = h.bound }) (file_sound limits l s.named.file.file)

pub accepted_limits : (plan limits : List ℕ) (m : Meaning) → IsAccepted plan limits m → HaveLimits m.flowchart m.limits
accepted_limits plan limits m h = judged_limits plan limits m.flowchart m.limits h.bound

-- the decimal of each input's default is kept
pub accepted_defaults : (plan limits : List ℕ) (m : Meaning) → IsAccepted plan limits m → All HasKeptValue m.flowchart.inputs
accepted_defaults plan limits m h =
    let text = h.bound.suited.named.file.ordered.typed.text in
    values_kept text.elements.inputs m.flowchart.inputs text.flowchart.inputs

-- ---- the inputs in declared order

-- where each input has a limit they are there
pub some_slots : (l : Limits) (ds : List Declaration) → All (HasSuitedLimit l) ds → (slots : List Slot) × AreSlots l ds slots
some_slots l [] h = ([], tt)
some_slots l (d ∷ ds) h =
    let own = All-head (HasSuitedLimit l) d ds h in
    let rest = some_slots l ds (All-tail (HasSuitedLimit l) d ds h) in
    let slot : Slot = record { name = d.name; kind = d.kind; limit = own.limit; value = option_map literal_decimal d.value; carry = carry_named l d.name } in
    (slot ∷ rest.0, (record { name = refl; kind = refl; limit = own.is; value = refl; carry = refl }, rest.1))

abbrev slot_with : List ℕ → Kind → InputLimit → Option Decimal → Option Carry → Slot
slot_with name kind limit value carry = record { name = name; kind = kind; limit = limit; value = value; carry = carry }

some_same : (a b : InputLimit) → Some a ≡ Some b → a ≡ b
some_same a b e = cc

one_slot : (l : Limits) (d : Declaration) (s t : Slot) → IsSlot l d s → IsSlot l d t → s ≡ t
one_slot l d s t h k =
    ap (λ x. slot_with x s.kind s.limit s.value s.carry) (h.name ∙ sym k.name)
    ∙ ap (λ x. slot_with t.name x s.limit s.value s.carry) (h.kind ∙ sym k.kind)
    ∙ ap (λ x. slot_with t.name t.kind x s.value s.carry) (some_same s.limit t.limit (sym h.limit ∙ k.limit))
    ∙ ap (λ x. slot_with t.name t.kind t.limit x s.carry) (h.value ∙ sym k.value)
    ∙ ap (λ x. slot_with t.name t.kind t.limit t.value x) (h.carry ∙ sym k.carry)

-- and they are determined
pub one_slots : (l : Limits) (ds : List Declaration) (a b : List Slot) → AreSlots l ds a → AreSlots l ds b → a ≡ b
one_slots l [] [] [] h k = refl
one_slots l [] [] (t ∷ b) h k = absurd k
one_slots l [] (s ∷ a) b h k = absurd h
one_slots l (d ∷ ds) [] b h k = absurd h
one_slots l (d ∷ ds) (s ∷ a) [] h k = absurd k
one_slots l (d ∷ ds) (s ∷ a) (t ∷ b) h k = ap (λ x. x ∷ a) (one_slot l d s t h.0 k.0) ∙ ap (λ x. t ∷ x) (one_slots l ds a b h.1 k.1)
