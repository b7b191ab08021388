use Rattle.plan_calendar.proofs.Laws.{pick_latest, pick_before_latest}
use Rattle.plan_calendar.proofs.calendar.picks_are_latest.Goals as goal

pub returns : goal.returns
returns g c = record { pick = pick_latest; before = pick_before_latest }
