use Rattle.std.proofs.Common.{refl}
use Rattle.interval_analysis.proofs.VisitLemmas.{range_added_on}
use Rattle.interval_analysis.proofs.visits.Known.add_range.Goals as goal

pub returns : goal.returns
returns c = range_added_on c.put_range.result c.args.spot.now c.args.range.now c.args.self.now _ c.put_range.ensures refl refl
