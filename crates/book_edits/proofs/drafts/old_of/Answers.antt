use Rattle.std.proofs.Common.{sym, ◌∙◌}
use Rattle.book_edits.proofs.YearsLemmas.{runs_missed}
use Rattle.book_edits.proofs.DraftLemmas.{old_found}
use Rattle.book_edits.proofs.drafts.old_of.Goals as goal

pub returns-in-Ok-clause-records : goal.returns-in-Ok-clause-records
returns-in-Ok-clause-records c =
    c.as_slice.ensures.value ∙ old_found c.args.list.now c.args.key c.in-Ok.at c.index-list-at.result c.in-Ok.ensures.found c.index-list-at.is

pub returns-in-Err-clause-records : goal.returns-in-Err-clause-records
returns-in-Err-clause-records c = sym (runs_missed c.args.list.now c.args.key c.in-Err.ensures.absent.at)
