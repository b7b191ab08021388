use Rattle.plan_calendar.proofs.LastLemmas.{pick_at, pick_gap}
use Rattle.plan_calendar.proofs.calendar.pick.Goals as goal
use Rattle.plan_calendar.proofs.calendar.pick.Goals.{in-Ok, in-Err}

pub returns : goal.returns
returns g c =
    elim c.match-place.branch [
      | in-Ok w ↦ rw (c.last_of_year.ensures, w.end-is)
          (pick_at c.args.entries.now c.args.day w.in-Ok.at c.requires.rising w.in-Ok.ensures.at)
      | in-Err w ↦ rw (c.last_of_year.ensures, w.end-is)
          (pick_gap c.args.entries.now c.args.day w.in-Err.at c.requires.rising w.in-Err.ensures.gap)
    ]
