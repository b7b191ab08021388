use Rattle.std.proofs.Common.{◌+◌, refl, sym, ap}
use Rattle.saved_items.specs.private.ItemViews.{front_in}
use Rattle.saved_items.specs.ItemFaults.{saved_in}
use Rattle.saved_items.proofs.TextLemmas.{ends_text, stops_as}
use Rattle.saved_items.proofs.reading.read_items.Goals as goal

pub returns-then-is_end-clause-ok : goal.returns-then-is_end-clause-ok
returns-then-is_end-clause-ok c =
    let h = c.in_ok-front.ensures in
    let all = c.if-is_end.ensures.0 in
    let last = c.if-is_end.ensures.1 in
    ends_text c.args.bytes.now (front_in c.in_ok-front.front) c.in_ok-front.rest.now h.sound h.text
    (record { saved = saved_in c.in_ok-front.front.items; all = all; last = last })

pub returns-clause-err : goal.returns-clause-err
returns-clause-err c =
    let h = c.in_ok-front.ensures in
    stops_as c.args.bytes.now (front_in c.in_ok-front.front) c.in_ok-front.rest.now h.sound h.text h.still
    _ _ _ (ap (λ n. n + 1) c.item_count.ensures.count) refl (sym h.known.plans) c.if-is_end.ensures
