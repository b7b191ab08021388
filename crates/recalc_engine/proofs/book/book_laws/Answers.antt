use Rattle.recalc_engine.proofs.BookLemmas.{book_rows_counted, book_rows_rise, book_rows_runs}
use Rattle.recalc_engine.proofs.EditMapLemmas.{edits_mapped}
use Rattle.recalc_engine.proofs.KeyedJobLemmas.{jobs_by_key}
use Rattle.recalc_engine.proofs.ListedLemmas.{parts_make, runs_distinct}
use Rattle.recalc_engine.proofs.MapLemmas.{runs_mapped}
use Rattle.recalc_engine.proofs.SafeLemmas.{jobs_safe}
use Rattle.recalc_engine.proofs.SameLemmas.{jobs_done, same_texts}
use Rattle.recalc_engine.proofs.book.book_laws.Goals as goal

pub returns : goal.returns
returns c = record {
  rise = book_rows_rise;
  counted = book_rows_counted;
  runs = book_rows_runs;
  parts = parts_make;
  distinct = runs_distinct;
  work = jobs_by_key;
  same = same_texts;
  done = jobs_done;
  safe = jobs_safe;
  mapped = runs_mapped;
  edits = edits_mapped;
}
