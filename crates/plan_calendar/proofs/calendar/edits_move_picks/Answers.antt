use Rattle.plan_calendar.proofs.Laws.{pick_put, pick_drop, pick_same}
use Rattle.plan_calendar.proofs.calendar.edits_move_picks.Goals as goal

pub returns : goal.returns
returns g c = record { put = λ es e d h. pick_put es e d h; drop = pick_drop; same = pick_same }
