use Rattle.std.proofs.Common.{refl}
use Rattle.interval_analysis.proofs.VisitLemmas.{exit_added, exit_shut}
use Rattle.interval_analysis.proofs.visits.Known.add_exit.Goals as goal

pub returns-then-not-is_open : goal.returns-then-not-is_open
returns-then-not-is_open c = exit_shut c.args.spot.now c.args.holds c.args.is_open c.args.self.now c.if-not-is_open.true

pub returns : goal.returns
returns c = exit_added c.args.spot.now c.args.holds c.args.is_open c.args.self.now _ c.if-not-is_open.false c.in_ok-insert.ensures.updates.0 refl refl
