use Rattle.std.proofs.Common.{sym}
use Rattle.std.proofs.lemmas.List.{map-set}
use Rattle.book_year.proofs.RecordLemmas.{put_at, put_in, map_insert, now_of}
use Rattle.book_year.proofs.records.runs_with.Goals as goal
use Rattle.book_year.proofs.records.runs_with.Goals.{in-Ok, in-Err+in_ok-insert-in-Err}

pub returns : goal.returns
returns c = elim c.match-place_run.branch [
  | in-Ok w ↦ rw (w.runs-is, map-set now_of _ _ _, c.in_ok-runs.ensures) (sym (put_at c.args.item.now c.args.records.now w.in-Ok.at w.in-Ok.ensures.found))
  | in-Err+in_ok-insert-in-Err w ↦ rw (w.runs-is, w.in_ok-insert-in-Err.ensures.items, map_insert now_of _ _ _, c.in_ok-runs.ensures) (sym (put_in c.args.item.now c.args.records.now w.in-Err.at w.in-Err.ensures.absent))
]
