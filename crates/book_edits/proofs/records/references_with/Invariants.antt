use Rattle.std.proofs.Common.{◌≡◌, take}
use Rattle.book_year.specs.Records.{records_of}
use Rattle.book_edits.specs.private.Groups.{put_runs}
use Rattle.book_edits.proofs.records.references_with.Given as goal

abbrev pub invariant-loop-item : goal.invariant-loop-item
invariant-loop-item l = records_of l.runs.items ≡ put_runs (take l.item-index l.items) l.fn.records
