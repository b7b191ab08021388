-- What private contracts cite beside the definitions of BookLaws.
use Rattle.std.specs.Prelude.{Option, Some, None, ⊤}
use Rattle.plan_calendar.specs.Picking.{Entry, plan_of}
use Rattle.book_year.specs.Accepted.{Accepted}
use Rattle.book_year.specs.declared.outcome.State.TheVariants as state
use Rattle.recalc_engine.specs.BookLaws.{IsAcceptedPlan}

-- the plan of a day, if there is one, is accepted
abbrev pub HasPlan : Option (Entry Accepted) → Type 0
HasPlan None = ⊤
HasPlan (Some e) = IsAcceptedPlan (plan_of e)
