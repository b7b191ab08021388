-- The plans of a calendar, each without its code.
use Rattle.std.specs.Prelude.{List, map}
use Rattle.plan_calendar.specs.Picking.{Entry}
use Rattle.pap_plan.specs.Plans.{Seen}
pub use Rattle.pay_run.specs.Accepted.{Accepted, accepted}

-- an entry of a calendar, its plan without its code
abbrev pub accepted_entry : Entry Seen → Entry Accepted
accepted_entry e = (e.0, accepted e.1)

-- the entries of a calendar, each plan without its code
abbrev pub plans_in : List (Entry Seen) → List (Entry Accepted)
plans_in es = map accepted_entry es
