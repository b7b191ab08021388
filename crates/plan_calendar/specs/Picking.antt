-- The plan of a day: plans hold from their day on, within its calendar year. Source: docs/PROFILE.md, "Which
-- plan holds".
use Rattle.std.specs.Prelude.{◌≡◌, List, [], ◌∷◌, Option, Some, None, ◌≤◌, length, Bool, true, false, not, ◌&&◌, ◌==◌, if◌then◌else◌}
use Rattle.std.specs.List.{Contains, AllByRecursion}
use Rattle.std.specs.Option.{option_or}
use Rattle.std.specs.Ordering.{is_lt, is_gt}
use Rattle.rising_lists.specs.Keyed.{at_key, put, without, IsRising}
use Rattle.payroll_records.specs.declared.day.Day.{Day}
use Rattle.payroll_records.specs.Orders.{day_cmp}
use Rattle.plan_calendar.specs.Limits.{most_plans}

-- an entry of a calendar: a day and the plan that holds from it on
abbrev pub Entry : Type 0 → Type 0
Entry P = Day × P

-- the day of an entry
abbrev pub day_of : {P : Type 0} → Entry P → Day
day_of e = e.0

-- the plan of an entry
abbrev pub plan_of : {P : Type 0} → Entry P → P
plan_of e = e.1

-- the days rise, and there are at most so many
pub record AreEntries {P : Type 0} (es : List (Entry P)) : Type 0 where
  pub rising : IsRising day_cmp day_of es
  pub few : length es ≤ most_plans

-- the entry of a day, if there is one
abbrev pub entry_at : {P : Type 0} → List (Entry P) → Day → Option (Entry P)
entry_at es d = at_key day_cmp day_of es d

-- the entries with one more, which takes the place of one of its day
abbrev pub with_entry : {P : Type 0} → Entry P → List (Entry P) → List (Entry P)
with_entry e es = put day_cmp day_of e es

-- the entries without that of a day
abbrev pub without_day : {P : Type 0} → Day → List (Entry P) → List (Entry P)
without_day d es = without day_cmp day_of d es

-- a plan of day a may serve day d: a isn't after d, in the same calendar year
abbrev pub serves : Day → Day → Bool
serves a d = (a.year == d.year) && not (is_gt (day_cmp a d))

-- a plan of day a may serve day d, and a is before d
abbrev pub serves_before : Day → Day → Bool
serves_before a d = (a.year == d.year) && is_lt (day_cmp a d)

-- the last element that passes the test
abbrev pub last_where : {X : Type 0} → (X → Bool) → List X → Option X
last_where p [] = None
last_where p (x ∷ xs) = option_or (last_where p xs) (if p x then Some x else None)

-- the entry with the latest day that isn't after the given one, among those of its year
abbrev pub pick : {P : Type 0} → List (Entry P) → Day → Option (Entry P)
pick es d = last_where (λ e. serves (day_of e) d) es

-- the entry with the latest day before the given one, among those of its year
abbrev pub pick_before : {P : Type 0} → List (Entry P) → Day → Option (Entry P)
pick_before es d = last_where (λ e. serves_before (day_of e) d) es

-- of the entries whose day passes the test this is the one with the latest day; None where no day passes
abbrev pub IsLatest : {P : Type 0} → List (Entry P) → (Day → Bool) → Option (Entry P) → Type 0
IsLatest es test None = AllByRecursion (λ e. test (day_of e) ≡ false) es
IsLatest es test (Some e) =
    Contains es e × (test (day_of e) ≡ true)
    × AllByRecursion (λ f.
    test (day_of f) ≡ true → is_gt (day_cmp (day_of f) (day_of e)) ≡ false) es
