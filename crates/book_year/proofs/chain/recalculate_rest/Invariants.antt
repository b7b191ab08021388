use Rattle.std.proofs.Common.{take, ◌+◌, ◌++◌}
use Rattle.book_year.specs.Records.{records_of}
use Rattle.book_year.specs.Picks.{planned_after}
use Rattle.book_year.specs.ChainClauses.{old_jobs}
use Rattle.book_year.proofs.ChainLemmas.{IsWalk}
use Rattle.book_year.proofs.chain.recalculate_rest.Given as goal

abbrev pub invariant-loop-item : goal.invariant-loop-item
invariant-loop-item g l =
    IsWalk (planned_after l.picks) (old_jobs l.picks l.old) l.reads (take (l.kept + l.item-index) (records_of l.records)) (take l.kept l.old.outcomes.now ++ l.done.outcomes.items) l.done.earlier.items l.runs l.taken l.initial.steps l.steps
