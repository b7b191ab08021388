use Rattle.std.proofs.Common.{◌+◌, ap}
use Rattle.saved_items.specs.private.ItemViews.{front_in}
use Rattle.saved_items.specs.ItemFaults.{saved_in}
use Rattle.saved_items.proofs.TextLemmas.{ends_text}
use Rattle.saved_items.proofs.WrongLemmas.{wrong_there}
use Rattle.saved_items.proofs.wrong_items.wrong_item.Goals as goal

pub returns-then-is_end : goal.returns-then-is_end
returns-then-is_end c =
    let h = c.in_ok-front.ensures in
    let saved = saved_in c.in_ok-front.front.items in (
      saved,
      ends_text c.args.bytes.now (front_in c.in_ok-front.front) c.in_ok-front.rest.now h.sound h.text
          (record { saved = saved; all = c.if-is_end.ensures.0; last = c.if-is_end.ensures.1 }),
    )

pub returns : goal.returns
returns c =
    let h = c.in_ok-front.ensures in
    wrong_there c.args.bytes.now (front_in c.in_ok-front.front) c.in_ok-front.rest.now h.sound h.text h.still _
    c.if-is_end.ensures (ap (λ n. n + 1) c.item_count.ensures.count) c.line_behind.ensures c.front_line.ensures c.is_cut.ensures
    c.wanted_behind.ensures
