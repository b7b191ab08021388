use Rattle.std.proofs.Common.{◌≡◌, ◌+◌, ◌≤◌, vec_len, vec_capacity}
use Rattle.std.specs.Vec.Iter.{into_iter_items, into_iter_len}
use Rattle.rising_lists.specs.Keyed.{IsRising}
use Rattle.payroll_records.specs.Orders.{day_cmp}
use Rattle.book_year.specs.Records.{record_day}
use Rattle.book_edits.specs.private.Groups.{put_runs}
use Rattle.book_edits.proofs.records.put_all.Given as goal

abbrev pub invariant-loop-item : goal.invariant-loop-item
invariant-loop-item l = record {
  rising : IsRising day_cmp record_day l.records.items;
  room : vec_len l.records + into_iter_len l.item-iterator ≤ vec_capacity l.records;
  rest : put_runs (into_iter_items l.item-iterator) l.records.items ≡ put_runs l.fn.items.items l.fn.records.items;
}
