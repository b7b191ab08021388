use Rattle.table_coverage.proofs.TableLemmas.{told_runs}
use Rattle.table_coverage.proofs.table.cover_runs.Goals as goal

pub returns : goal.returns
returns c =
    told_runs _ _ _ _ c.in_ok-notes.notes _ c.in_ok-lines.lines _ c.with_open_runs.result c.in_ok-notes.ensures.notes
    c.deref.ensures.value c.in_ok-lines.ensures c.in_ok-methods.ensures c.with_open_runs.ensures
