use Rattle.std.proofs.Common.{refl}
use Rattle.book_year.specs.Accepted.{plans_in}
use Rattle.book_edits.specs.Kept.{years_of}
use Rattle.book_edits.proofs.DoneLemmas.{change_done, in_order}
use Rattle.book_edits.proofs.MonthLemmas.{source_is}
use Rattle.book_edits.proofs.years.Years.change.Goals as goal

pub source_of-requires : goal.source_of-requires
source_of-requires g c = in_order (plans_in c.args.plans.now) c.args.self.now c.requires

pub change_run-requires-clause-there : goal.change_run-requires-clause-there
change_run-requires-clause-there g c =
    let old = c.args.self.now in
    (source_is (years_of old) c.args.item c.in_ok-from.from (in_order (plans_in c.args.plans.now) old c.requires) c.in_ok-from.ensures.ok).there

pub returns-clause-ok : goal.returns-clause-ok
returns-clause-ok g c =
    change_done (plans_in c.args.plans.now) c.args.self.now _ c.requires c.args.item c.in_ok-from.from c.in_ok-change_run.field-0 c.in_ok-from.ensures.ok c.in_ok-change_run.ensures.ok refl
