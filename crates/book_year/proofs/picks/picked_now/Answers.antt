use Rattle.book_year.proofs.PickLemmas.{pick_lent}
use Rattle.book_year.proofs.picks.picked_now.Goals as goal

pub returns : goal.returns
returns c = pick_lent c.args.plans.now c.args.day c.pick.result c.pick.ensures
