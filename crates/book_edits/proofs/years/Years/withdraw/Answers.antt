use Rattle.std.proofs.Common.{arith}
use Rattle.book_year.specs.Accepted.{plans_in}
use Rattle.book_edits.proofs.DoneLemmas.{in_order, withdraw_done, withdraw_one, withdraw_there}
use Rattle.book_edits.proofs.years.Years.withdraw.Goals as goal

pub withdrawal-requires : goal.withdrawal-requires
withdrawal-requires g c = in_order (plans_in c.args.plans.now) c.args.self.now c.requires

pub take_run-requires-clause-there : goal.take_run-requires-clause-there
take_run-requires-clause-there g c =
    let old = c.args.self.now in
    withdraw_there (plans_in c.args.plans.now) old old c.requires c.args.employee c.args.when c.in_ok-key.key c.in_ok-key.ensures.ok

pub overflow_sub-self : goal.overflow_sub-self
overflow_sub-self g c =
    let old = c.args.self.now in
    omega (arith, withdraw_one (plans_in c.args.plans.now) old old c.requires c.args.employee c.args.when c.in_ok-key.key c.in_ok-key.ensures.ok)

pub returns-clause-ok : goal.returns-clause-ok
returns-clause-ok g c =
    let old = c.args.self.now in
    let one = withdraw_one (plans_in c.args.plans.now) old old c.requires c.args.employee c.args.when c.in_ok-key.key c.in_ok-key.ensures.ok in
    withdraw_done (plans_in c.args.plans.now) old _ c.requires c.args.employee c.args.when c.in_ok-key.key c.in_ok-work.work c.in_ok-key.ensures.ok c.in_ok-work.ensures.ok (omega (arith, one))
