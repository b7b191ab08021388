-- The plan of a day after an edit of the calendar.
use Rattle.std.specs.Prelude.{◌≡◌, List, Option, Some, None, Bool, true, not, ◌&&◌, if◌then◌else◌, IsSome}
use Rattle.std.specs.Ordering.{is_gt}
use Rattle.rising_lists.specs.Keyed.{IsRising}
use Rattle.payroll_records.specs.declared.day.Day.{Day}
use Rattle.payroll_records.specs.Orders.{day_cmp}
use Rattle.plan_calendar.specs.Picking.{Entry, day_of, entry_at, with_entry, without_day, serves, pick, pick_before, IsLatest, serves_before}

-- the entry, if there is one, isn't after this day
abbrev pub is_by : {P : Type 0} → Option (Entry P) → Day → Bool
is_by None day = true
is_by (Some e) day = not (is_gt (day_cmp (day_of e) day))

-- an edit at this day decides the plan of day d: it may serve d, and no entry between the two does
abbrev pub moves : {P : Type 0} → List (Entry P) → Day → Day → Bool
moves es day d = serves day d && is_by (pick es d) day

-- the plan of day d after an edit that leaves this entry to the days that it decides
abbrev pub picked_after : {P : Type 0} →
    List (Entry P) → Day → Option (Entry P) → Day → Option (Entry P)
picked_after es day left d = if moves es day d then left else pick es d

-- what an edit does to the plan of each day
pub record EditsMovePicks (P : Type 0) : Type 0 where
  -- a plan that is put serves the days from its own to the next entry's or the year's end, and no other
  pub put : (es : List (Entry P)) (e : Entry P) (d : Day) → IsRising day_cmp day_of es →
      pick (with_entry e es) d ≡ picked_after es (day_of e) (Some e) d
  -- a plan that is dropped leaves its days to the entry before it in its year
  pub drop : (es : List (Entry P)) (day d : Day) →
      IsRising day_cmp day_of es → IsSome (entry_at es day) →
      pick (without_day day es) d ≡ picked_after es day (pick_before es day) d
  -- the days that an edit at a day decides had one and the same plan before it: that of the edit's day
  pub same : (es : List (Entry P)) (day d : Day) → moves es day d ≡ true → pick es day ≡ pick es d

-- what pick and pick_before give is the entry of the latest day
pub record PicksLatest (P : Type 0) : Type 0 where
  pub pick : (es : List (Entry P)) (d : Day) → IsRising day_cmp day_of es →
      IsLatest es (λ a. serves a d) (pick es d)
  pub before : (es : List (Entry P)) (d : Day) → IsRising day_cmp day_of es →
      IsLatest es (λ a. serves_before a d) (pick_before es d)
