use Rattle.std.proofs.Common.{refl}
use Rattle.interval_analysis.proofs.VisitLemmas.{place_added}
use Rattle.interval_analysis.proofs.visits.Known.add_place.Goals as goal

pub returns : goal.returns
returns c = place_added c.args.spot.now c.args.self.now _ c.in_ok-insert.ensures.updates.0 refl refl
