use Rattle.interval_analysis.proofs.VisitLemmas.{if_added_on}
use Rattle.interval_analysis.proofs.visits.Known.add_if.Goals as goal

pub returns : goal.returns
returns c =
    if_added_on c.add_exit-2.result c.args.spot.now c.args.branches.now c.is_some.result c.is_some-2.result c.args.self.now c.add_place.new.self c.add_exit.new.self c.add_exit-2.new.self
    c.is_some.ensures c.is_some-2.ensures c.in_ok-add_place.ensures c.in_ok-add_exit.ensures c.add_exit-2.ensures
