use Rattle.std.proofs.Common.{arith, sym, ◌∙◌, ◌≡◌, None, Some}
use Rattle.carry_bindings.specs.Carrying.{amount_of}
use Rattle.carry_bindings.specs.private.OutputViews.{names_before}
use Rattle.carry_bindings.proofs.AmountLemmas.{sum_fits, sum_partial, partial_more, amount_bounded, amounts_from}
use Rattle.carry_bindings.proofs.OutputLemmas.{marked_alike, place_next}
use Rattle.carry_bindings.proofs.carried.total.Goals as goal

pub add-total-requires : goal.add-total-requires
add-total-requires c =
    let name = c.args.name.now in
    let earlier = c.args.earlier.now in
    let at = c.loop-at.at in
    let e = c.index-earlier-at.result in
    let alike = marked_alike earlier at e c.loop-at-test.true c.index-earlier-at.is c.args.alike.now c.is_marked.result c.requires.alike c.is_marked.ensures in
    let place = c.place_in-place.ensures (names_before earlier at) c.loop-at.invariant.place alike in
    let amount : amount_of name e ≡ Some c.in-Some.value = sym (c.amount_at.ensures name place) ∙ c.in-Some.is in
    sum_fits at (omega (arith, c.requires.few)) c.loop-at.total c.in-Some.value c.loop-at.invariant.bounded
    (amount_bounded name earlier at e c.in-Some.value c.requires.bounded c.loop-at-test.true c.index-earlier-at.is amount)

pub loop-at-preserved : goal.loop-at-preserved
loop-at-preserved c =
    let name = c.args.name.now in
    let earlier = c.args.earlier.now in
    let at = c.loop-at.at in
    let e = c.index-earlier-at.result in
    let alike = marked_alike earlier at e c.loop-at-test.true c.index-earlier-at.is c.args.alike.now c.is_marked.result c.requires.alike c.is_marked.ensures in
    let place = c.place_in-place.ensures (names_before earlier at) c.loop-at.invariant.place alike in
    let amount : amount_of name e ≡ Some c.in-Some.value = sym (c.amount_at.ensures name place) ∙ c.in-Some.is in
    let from = amounts_from name earlier at e c.loop-at-test.true c.index-earlier-at.is in
    let more = rw (from, amount) at c.loop-at.invariant.same in
    let bounded = amount_bounded name earlier at e c.in-Some.value c.requires.bounded c.loop-at-test.true c.index-earlier-at.is amount in
    rw c.add-total.ensures (record {
      same = more;
      bounded = sum_partial at (omega (arith, c.requires.few)) c.loop-at.total c.in-Some.value c.loop-at.invariant.bounded bounded;
      place = place_next earlier at e c.loop-at-test.true c.index-earlier-at.is name c.place_in-place.result place;
    })

pub loop-at-preserved-in_default : goal.loop-at-preserved-in_default
loop-at-preserved-in_default c =
    let name = c.args.name.now in
    let earlier = c.args.earlier.now in
    let at = c.loop-at.at in
    let e = c.index-earlier-at.result in
    let alike = marked_alike earlier at e c.loop-at-test.true c.index-earlier-at.is c.args.alike.now c.is_marked.result c.requires.alike c.is_marked.ensures in
    let place = c.place_in-place.ensures (names_before earlier at) c.loop-at.invariant.place alike in
    let none : amount_of name e ≡ None = sym (c.amount_at.ensures name place) ∙ c.in_default.is in
    let from = amounts_from name earlier at e c.loop-at-test.true c.index-earlier-at.is in
    record {
      same = rw (from, none) at c.loop-at.invariant.same;
      bounded = partial_more at c.loop-at.total c.loop-at.invariant.bounded;
      place = place_next earlier at e c.loop-at-test.true c.index-earlier-at.is name c.place_in-place.result place;
    }
