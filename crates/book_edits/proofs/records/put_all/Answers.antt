use Rattle.std.proofs.Common.{subst, sym, ap, ◌∙◌, arith}
use Rattle.std.specs.Vec.Iter.{into_iter_items}
use Rattle.rising_lists.specs.Keyed.{IsRising}
use Rattle.payroll_records.specs.Orders.{day_cmp}
use Rattle.book_year.specs.Records.{record_day}
use Rattle.book_year.proofs.Laws.{rising_put}
use Rattle.book_edits.specs.private.Groups.{put_runs}
use Rattle.book_edits.proofs.records.put_all.Goals as goal

pub loop-item-preserved : goal.loop-item-preserved
loop-item-preserved c =
    let old = c.loop-item.records.items in
    record {
      rising = subst (IsRising day_cmp record_day) (sym c.put_in_room.ensures.items) (rising_put c.in-Some.item old c.loop-item.invariant.rising);
      room = omega (arith, c.put_in_room.ensures.len, c.put_in_room.ensures.capacity, c.in-Some.ensures.steps.1, c.loop-item.invariant.room);
      rest = ap (put_runs (into_iter_items c.next.new.self)) c.put_in_room.ensures.items ∙ ap (λ t. put_runs t old) (sym c.in-Some.ensures.steps.0) ∙ c.loop-item.invariant.rest;
    }
