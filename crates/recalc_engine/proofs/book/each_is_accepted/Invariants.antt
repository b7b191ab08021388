use Rattle.std.proofs.Common.{ℕ, ◌<◌, get_or}
use Rattle.plan_calendar.specs.Picking.{Entry}
use Rattle.pap_plan.specs.Plans.{Seen}
use Rattle.book_year.specs.Accepted.{accepted}
use Rattle.recalc_engine.specs.BookLaws.{IsAcceptedPlan}
use Rattle.recalc_engine.proofs.book.each_is_accepted.Given as goal

abbrev pub invariant-loop-entry : goal.invariant-loop-entry
invariant-loop-entry l = (k : ℕ) (d : Entry Seen) → k < l.entry-index → IsAcceptedPlan (accepted (get_or l.entries k d).1)
