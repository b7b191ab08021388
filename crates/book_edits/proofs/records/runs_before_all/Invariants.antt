use Rattle.std.proofs.Common.{◌≡◌, ◌≤◌, length, take}
use Rattle.book_edits.specs.private.Groups.{put_runs}
use Rattle.book_edits.proofs.records.runs_before_all.Given as goal

abbrev pub invariant-loop-item : goal.invariant-loop-item
invariant-loop-item l = record {
  within : l.kept ≤ length l.records;
  same : take l.kept (put_runs (take l.item-index l.items) l.records) ≡ take l.kept l.records;
}
