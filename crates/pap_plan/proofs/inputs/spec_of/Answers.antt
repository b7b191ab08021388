use Rattle.std.proofs.Common.{◌+◌, ◌<◌, ◌≤◌, length, map, drop, slice_index_or, sym, ap, subst, ◌∙◌}
use Rattle.std.specs.Option.{option_map}
use Rattle.pap_tree.specs.Declarations.{declaration_of}
use Rattle.pap_plan.specs.Inputs.{AreSlots}
use Rattle.pap_plan.proofs.BindingLemmas.{left_from, none_left}
use Rattle.pap_plan.proofs.SlotLemmas.{AreSlotsBefore, no_slots, slot_is, one_slot, all_slots, never_unlimited}
use Rattle.pap_plan.proofs.inputs.spec_of.Goals.{in-Some+in_ok-push, in_default}
use Rattle.pap_plan.proofs.inputs.spec_of.Goals as goal

-- src/inputs.rt:26:5
pub loop-input-init : goal.loop-input-init
loop-input-init c e =
    let all = map declaration_of c.args.plan.now.inputs.items in
    subst (AreSlotsBefore c.args.ranges.now all all) (sym c.new-slots.ensures.items) (no_slots c.args.ranges.now all)

-- src/inputs.rt:26:5
pub loop-input-preserved : goal.loop-input-preserved
loop-input-preserved c e =
    let items = c.args.plan.now.inputs.items in
    let all = map declaration_of items in
    let i = c.loop-input.input-index in
    let left = map declaration_of (drop (i + 1) items) in
    let is = c.input-item.is ∙ ap (λ xs. slice_index_or xs i c.input-item.result) c.deref-input-items.ensures.value in
    let less = subst (λ xs. i < length xs) c.deref-input-items.ensures.value c.loop-input-test.true in
    let d = declaration_of c.input-item.result in
    let so_far = subst (λ ds. AreSlotsBefore c.args.ranges.now all ds c.loop-input.slots.items) (left_from items i c.input-item.result is less) (c.loop-input.invariant e) in
    let limit = c.limit_of.ensures in
    elim c.match-limit_of.branch [
      | in-Some+in_ok-push w ↦
          let slot = slot_is c.args.ranges.now d w.in-Some.limit.now w.default_of.result w.carry_named.result (sym limit ∙ ap (option_map (λ l. l.now)) w.in-Some.is) w.default_of.ensures w.carry_named.ensures in
          subst (AreSlotsBefore c.args.ranges.now all left) (sym (ap (λ v. v.items) w.slots-is ∙ w.in_ok-push.ensures.items)) (one_slot c.args.ranges.now all left c.loop-input.slots.items d _ so_far slot)
      | in_default w ↦
          absurd (never_unlimited c.args.ranges.now all left c.loop-input.slots.items d so_far e (sym (ap (option_map (λ l. l.now)) w.in_default.is) ∙ limit))
    ]

-- src/inputs.rt:17:1
pub returns : goal.returns
returns c e =
    let items = c.args.plan.now.inputs.items in
    let i = c.loop-input.input-index in
    let end = subst (λ xs. length xs ≤ i) c.deref-input-items.ensures.value c.loop-input-test.false in
    subst (AreSlots c.args.ranges.now (map declaration_of items)) (sym c.from_vec.ensures)
    (all_slots c.args.ranges.now (map declaration_of items) (map declaration_of (drop i items)) c.loop-input.slots.items (none_left items i end) (c.loop-input.invariant e))
