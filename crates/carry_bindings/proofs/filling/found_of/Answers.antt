use Rattle.std.proofs.Common.{◌≡◌, ◌+◌, ◌∷◌, suc, sym, ap, subst, ◌∙◌, add-one, length, take, drop}
use Rattle.std.proofs.Math.ListN.{length-map}
use Rattle.std.proofs.Math.Seq.{drop-cons}
use Rattle.carry_bindings.specs.Filling.{takes}
use Rattle.carry_bindings.specs.private.Views.{IsSofar, marked, taken}
use Rattle.carry_bindings.proofs.NameLemmas.{mark_more, place_fits}
use Rattle.carry_bindings.proofs.filling.found_of.Goals as goal

pub mark-requires : goal.mark-requires
mark-requires c =
    let values = c.args.values.now in
    let l = c.loop-slot in
    let long = ap length l.invariant.taken ∙ length-map values (λ v. takes (take l.slot-index c.args.slots.now) v.name) in
    rw c.look_up-place.ensures.place (place_fits values c.slot-item.result.name (length l.found.taken.items) long)

pub loop-slot-preserved : goal.loop-slot-preserved
loop-slot-preserved c =
    let slots = c.args.slots.now in
    let values = c.args.values.now in
    let earlier = c.args.earlier.now in
    let l = c.loop-slot in
    let at = l.slot-index in
    let slot = c.slot-item.result in
    let rest : drop at slots ≡ slot ∷ drop (at + 1) slots = rw add-one (drop-cons slots at slot c.loop-slot-test.true ∙ ap (λ x. x ∷ drop (suc at) slots) (sym c.slot-item.is)) in
    let before = subst (λ more. IsSofar values earlier slots more l.found) rest l.invariant.sofar in
    record {
      taken = c.put.ensures.taken ∙ c.mark.ensures ∙ ap (λ ms. marked ms c.look_up-place.result.0 slot.carry) l.invariant.taken
          ∙ ap (λ p. marked (taken (take at slots) values) p slot.carry) c.look_up-place.ensures.place
          ∙ sym (mark_more slots at slot values c.loop-slot-test.true c.slot-item.is c.none_taken.ensures.are.rising);
      sofar = c.in_ok-put.ensures.more values earlier slots (drop (at + 1) slots) (sym c.value_of-value.ensures)
          (record { missing = before.missing; outside = before.outside; inputs = before.inputs });
    }
