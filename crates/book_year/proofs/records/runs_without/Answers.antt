use Rattle.std.proofs.Common.{sym}
use Rattle.book_year.proofs.RecordLemmas.{without_at, without_in, map_remove, now_of}
use Rattle.book_year.proofs.records.runs_without.Goals as goal

pub returns-in-Ok : goal.returns-in-Ok
returns-in-Ok c = rw (c.remove.ensures.items, map_remove now_of _ _, c.in_ok-runs.ensures) (sym (without_at c.args.day c.args.records.now c.in-Ok.at c.in-Ok.ensures.found))

pub returns-in-Err : goal.returns-in-Err
returns-in-Err c = rw c.in_ok-runs.ensures (sym (without_in c.args.day c.args.records.now _ c.in-Err.ensures.absent))
