-- The plan of each day planned_before and planned_after an edit of the calendar.
use Rattle.std.specs.Prelude.{ℕ, ◌≡◌, ◌==◌, List, Option, Some, None, Bool, true, false, ⊤}
use Rattle.std.specs.Option.{option_map, option_map_or}
use Rattle.std.specs.Borrow.{Bor}
use Rattle.payroll_records.specs.declared.day.Day.{Day}
use Rattle.plan_calendar.specs.Picking.{Entry, plan_of, pick}
use Rattle.plan_calendar.specs.Edits.{picked_after}
use Rattle.pap_plan.specs.Acceptance.{Meaning}
use Rattle.pap_plan.specs.Plans.{Seen}
use Rattle.book_year.specs.Accepted.{Accepted, accepted, plans_in}
use Rattle.book_year.specs.declared.picks.Edit.{Edit}
use Rattle.book_year.specs.declared.picks.Picks.{Picks}
use Rattle.book_year.specs.declared.picks.Picked.{Picked}
use Rattle.book_year.specs.Jobs.{has_texts}
use Rattle.book_year.specs.Rows.{Planned}

-- a plan that is lent, with the day from which it holds
abbrev pub lent_entry : Day × Bor Seen → Entry Accepted
lent_entry p = (p.0, accepted p.1.now)

-- what an edit leaves to the days that it decides
abbrev pub edit_entry : Edit → Option (Entry Accepted)
edit_entry e = option_map lent_entry e.entry

-- the plan of each day planned_before the edit
abbrev pub planned_before : Picks → Planned
planned_before p d = pick (plans_in p.plans.now) d

-- the plan of a day in a calendar, planned_after an edit of it if there is one
abbrev pub after_by : List (Entry Accepted) → Option Edit → Planned
after_by plans None d = pick plans d
after_by plans (Some e) d = picked_after plans e.day (edit_entry e) d

-- the plan of each day planned_after the edit
abbrev pub planned_after : Picks → Planned
planned_after p d = after_by (plans_in p.plans.now) p.edit d

-- the edit is at a day of this year
abbrev pub is_edited : Picks → ℕ → Bool
is_edited p year = option_map_or (λ (e : Edit). e.day.year == year) p.edit false

-- both plans are there, with the same texts
abbrev pub same_plan : Option (Entry Accepted) → Option (Entry Accepted) → Bool
same_plan None now = false
same_plan (Some a) None = false
same_plan (Some a) (Some b) = has_texts (plan_of a) (plan_of b)

-- what the plan of an entry means, if there is an entry
abbrev pub meaning_of : Option (Entry Accepted) → Option Meaning
meaning_of o = option_map (λ (e : Entry Accepted). (plan_of e).meaning) o

-- an edit knows whether its plan has the texts of the one planned_before, and then both mean the same
pub record KnowsSame (was now : Option (Entry Accepted)) (same : Bool) : Type 0 where
  pub texts : same ≡ same_plan was now
  pub means : same ≡ true → meaning_of was ≡ meaning_of now

-- where there is an edit, it knows whether its plan has the texts of the one planned_before
abbrev pub IsEdit : List (Entry Accepted) → Option Edit → Type 0
IsEdit plans None = ⊤
IsEdit plans (Some e) = KnowsSame (pick plans e.day) (edit_entry e) e.same

-- the edit knows whether the plan that it gives has the texts of the one that it takes away
abbrev pub ArePicks : Picks → Type 0
ArePicks p = IsEdit (plans_in p.plans.now) p.edit

-- a picked plan as an entry of the calendar
abbrev pub picked_plan : Picked → Entry Accepted
picked_plan p = (p.day, accepted p.plan.now)
