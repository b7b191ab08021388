use Rattle.std.proofs.Common.{take}
use Rattle.book_year.proofs.FrontLemmas.{plans_kept, plans_stay}
use Rattle.book_year.proofs.year.unmoved.Goals as goal

pub returns-in-None-clause-plans : goal.returns-in-None-clause-plans
returns-in-None-clause-plans c = plans_stay c.args.picks.now _ c.in-None.is

pub returns-in-Some-clause-plans : goal.returns-in-Some-clause-plans
returns-in-Some-clause-plans c = plans_kept c.args.picks.now c.in-Some.edit (take c.runs_before.result c.args.records.now) c.in-Some.is c.runs_before.ensures.before
