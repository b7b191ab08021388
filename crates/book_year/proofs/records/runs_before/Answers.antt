use Rattle.book_year.proofs.BeforeLemmas.{before_at, before_gap}
use Rattle.book_year.proofs.records.runs_before.Goals as goal

pub returns-in-Ok : goal.returns-in-Ok
returns-in-Ok c = before_at c.args.day c.args.records.now c.in-Ok.at c.requires c.in-Ok.ensures.found

pub returns-in-Err : goal.returns-in-Err
returns-in-Err c = before_gap c.args.day c.args.records.now c.in-Err.at c.in-Err.ensures.absent
