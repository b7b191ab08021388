use Rattle.interval_analysis.proofs.VisitLemmas.{eval_added_on}
use Rattle.interval_analysis.proofs.visits.Known.add_eval.Goals as goal

pub returns : goal.returns
returns c =
    eval_added_on c.add_range.result c.args.spot.now c.args.range c.of.result c.args.self.now c.add_place.new.self c.add_range.new.self
    c.of.ensures c.in_ok-add_place.ensures c.add_range.ensures
