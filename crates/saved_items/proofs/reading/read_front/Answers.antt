use Rattle.std.proofs.Common.{length, ap, arith, length-append}
use Rattle.saved_items.specs.private.ItemViews.{front_in, item_in}
use Rattle.saved_items.specs.private.ItemDecisions.{item_text}
use Rattle.saved_items.proofs.DecidedItemLemmas.{item_some}
use Rattle.saved_items.proofs.TextLemmas.{goes_on}
use Rattle.saved_items.proofs.reading.read_front.Goals as goal

pub loop-front-preserved : goal.loop-front-preserved
loop-front-preserved c =
    let h = c.loop-front.invariant in
    let read = rw c.in-Some.is at c.in_ok-item.ensures in
    let on = goes_on c.args.bytes.now (front_in c.loop-front.front)
    (front_in c.add.new.self) c.loop-front.rest.now c.in-Some.left.now
    (item_in c.in-Some.item) h.sound h.text read.0 read.1 c.in_ok-add.ensures.more in
    record { sound = on.0; text = on.1; known = c.in_ok-add.ensures.known }

pub loop-front-smaller : goal.loop-front-smaller
loop-front-smaller c =
    let read = rw c.in-Some.is at c.in_ok-item.ensures in
    let long = ap length read.1 in
    let some = item_some (item_in c.in-Some.item) in
    omega (arith, long, some, length-append (item_text (item_in c.in-Some.item)) c.in-Some.left.now)

pub returns : goal.returns
returns c =
    let h = c.loop-front.invariant in
    let none = rw c.in_default.is at c.in_ok-item.ensures in
    record { sound = h.sound; text = h.text; known = h.known; still = λ g. none g.item g.rest g.fits g.text }
