use Rattle.plan_calendar.proofs.LastLemmas.{pick_before_at, pick_before_gap}
use Rattle.plan_calendar.proofs.calendar.pick_before.Goals as goal
use Rattle.plan_calendar.proofs.calendar.pick_before.Goals.{in-Ok, in-Err}

pub returns : goal.returns
returns g c =
    elim c.match-place.branch [
      | in-Ok w ↦ rw (c.last_of_year.ensures, w.end-is)
          (pick_before_at c.args.entries.now c.args.day w.in-Ok.at c.requires.rising w.in-Ok.ensures.at)
      | in-Err w ↦ rw (c.last_of_year.ensures, w.end-is)
          (pick_before_gap c.args.entries.now c.args.day w.in-Err.at c.requires.rising w.in-Err.ensures.gap)
    ]
