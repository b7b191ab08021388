-- What the first items of a saved book say. Its items are its first three lines, each plan, the line before the runs, each
-- run, and the last line.
use Rattle.std.specs.Prelude.{ℕ, ◌+◌, ◌≤◌, List, [], ◌++◌, length, ⊤}
use Rattle.std.specs.List.{AllByRecursion, flat_map}
use Rattle.rising_lists.specs.Keyed.{IsRising}
use Rattle.payroll_records.specs.Orders.{day_cmp, key_cmp}
use Rattle.payroll_records.specs.Tables.{Text, key_of}
use Rattle.payroll_records.specs.declared.record.Record.{Record}
use Rattle.payroll_records.specs.Limits.{most_records}
use Rattle.plan_calendar.specs.Limits.{most_plans}
use Rattle.saved_items.specs.SavedBooks.{SavedPlan, saved_day, IsWork, ArePlans, IsRun, title_text, work_text, head_text, saved_plan_text, run_count_text, saved_run_text}

-- what the first items of a text have said, by how far they reach
pub data FirstItems : Type 0 where
  nothing : FirstItems
  titled : FirstItems
  -- the runs and the steps of the last work
  worked : ℕ → ℕ → FirstItems
  -- the same, how many plans there will be, and the plans so far
  planning : ℕ → ℕ → ℕ → List SavedPlan → FirstItems
  -- the same with all plans, how many runs there will be, and the runs so far
  running : ℕ → ℕ → List SavedPlan → ℕ → List Record → FirstItems

-- how many items the first items are
abbrev pub items_in : FirstItems → ℕ
items_in nothing = 0
items_in titled = 1
items_in (worked runs steps) = 2
items_in (planning runs steps count plans) = 3 + length plans
items_in (running runs steps plans count records) = 4 + length plans + length records

-- the plans among the first items
abbrev pub plans_of_first : FirstItems → List SavedPlan
plans_of_first nothing = []
plans_of_first titled = []
plans_of_first (worked runs steps) = []
plans_of_first (planning runs steps count plans) = plans
plans_of_first (running runs steps plans count records) = plans

-- the text of these first items
abbrev pub front_text : FirstItems → Text
front_text nothing = []
front_text titled = title_text
front_text (worked runs steps) = title_text ++ work_text runs steps
front_text (planning runs steps count plans) = head_text runs steps count ++ flat_map saved_plan_text plans
front_text (running runs steps plans count records) =
    head_text runs steps (length plans)
    ++ (flat_map saved_plan_text plans ++ (run_count_text count ++ flat_map saved_run_text records))

-- plans whose days rise, of as many as a number within the limit says
pub record IsPlanning (count : ℕ) (plans : List SavedPlan) : Type 0 where
  pub counted : count ≤ most_plans
  pub within : length plans ≤ count
  pub rising : IsRising day_cmp saved_day plans

-- runs whose keys rise, of as many as a number within the limit says
pub record IsRunning (count : ℕ) (records : List Record) : Type 0 where
  pub counted : count ≤ most_records
  pub within : length records ≤ count
  pub rising : IsRising key_cmp key_of records
  pub each : AllByRecursion IsRun records

-- each item is of its form after the earlier ones
abbrev pub AreFirstItems : FirstItems → Type 0
AreFirstItems nothing = ⊤
AreFirstItems titled = ⊤
AreFirstItems (worked runs steps) = IsWork runs steps
AreFirstItems (planning runs steps count plans) = IsWork runs steps × IsPlanning count plans
AreFirstItems (running runs steps plans count records) =
    IsWork runs steps × ArePlans plans × IsRunning count records
