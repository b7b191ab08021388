use Rattle.std.proofs.Common.{sym, ◌∙◌}
use Rattle.carry_bindings.specs.private.OutputViews.{names_before}
use Rattle.carry_bindings.proofs.AmountLemmas.{amounts_from}
use Rattle.carry_bindings.proofs.OutputLemmas.{marked_alike, place_next}
use Rattle.carry_bindings.proofs.carried.latest.Goals.{in-Some, in_default}
use Rattle.carry_bindings.proofs.carried.latest.Goals as goal

pub loop-at-preserved : goal.loop-at-preserved
loop-at-preserved c =
    let name = c.args.name.now in
    let earlier = c.args.earlier.now in
    let at = c.loop-at.at in
    let e = c.index-earlier-at.result in
    let alike = marked_alike earlier at e c.loop-at-test.true c.index-earlier-at.is c.args.alike.now c.is_marked.result c.requires c.is_marked.ensures in
    let place = c.place_in-place.ensures (names_before earlier at) c.loop-at.invariant.place alike in
    let amount = c.amount_at.ensures name place in
    let from = amounts_from name earlier at e c.loop-at-test.true c.index-earlier-at.is in
    record {
      same = elim c.match-amount_at.branch [
        | in-Some w ↦ rw w.latest-is (rw (from, sym amount ∙ w.in-Some.is) at c.loop-at.invariant.same)
        | in_default w ↦ rw w.latest-is (rw (from, sym amount ∙ w.in_default.is) at c.loop-at.invariant.same)
      ];
      place = place_next earlier at e c.loop-at-test.true c.index-earlier-at.is name c.place_in-place.result place;
    }
