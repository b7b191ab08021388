-- The items of a saved book one by one: which one may follow the first ones, and what they are with it.
use Rattle.std.specs.Prelude.{◌≡◌, ℕ, ◌<◌, ◌≤◌, List, [], ◌∷◌, ◌++◌, length}
use Rattle.std.specs.List.{AllByRecursion}
use Rattle.std.specs.declared.cmp.Ordering.TheVariants.{Less}
use Rattle.payroll_records.specs.Orders.{day_cmp, key_cmp}
use Rattle.payroll_records.specs.Tables.{Text, key_of}
use Rattle.payroll_records.specs.declared.record.Record.{Record}
use Rattle.saved_items.specs.Fronts.{FirstItems, nothing, titled, worked, planning, running}
use Rattle.payroll_records.specs.Limits.{most_records}
use Rattle.plan_calendar.specs.Limits.{most_plans}
use Rattle.saved_items.specs.SavedBooks.{SavedPlan, Saved, saved_day, IsWork, IsRun, title_text, work_text, plan_count_text, saved_plan_text, run_count_text, saved_run_text, end_text}

-- an item but for the last line
pub data Item : Type 0 where
  title : Item
  work : ℕ → ℕ → Item
  plan_count : ℕ → Item
  plan : SavedPlan → Item
  run_count : ℕ → Item
  run : Record → Item

abbrev pub item_text : Item → Text
item_text title = title_text
item_text (work runs steps) = work_text runs steps
item_text (plan_count count) = plan_count_text count
item_text (plan p) = saved_plan_text p
item_text (run_count count) = run_count_text count
item_text (run r) = saved_run_text r

-- the day is behind those of all plans, the key behind those of all runs
abbrev pub IsLater : List SavedPlan → SavedPlan → Type 0
IsLater plans p = AllByRecursion (λ q. day_cmp (saved_day q) (saved_day p) ≡ Less) plans

abbrev pub IsBeyond : List Record → Record → Type 0
IsBeyond records r = AllByRecursion (λ q. key_cmp (key_of q) (key_of r) ≡ Less) records

-- the item is of its form after these
abbrev pub Fits : FirstItems → Item → Type 0
Fits nothing title = Unit {0}
Fits titled (work runs steps) = IsWork runs steps
Fits (worked runs steps) (plan_count count) = count ≤ most_plans
Fits (planning runs steps count plans) (plan p) = (length plans < count) × IsLater plans p
Fits (planning runs steps count plans) (run_count records) =
    (length plans ≡ count) × (records ≤ most_records)
Fits (running runs steps plans count records) (run r) =
    (length records < count) × IsRun r × IsBeyond records r
Fits front item = ⊥

abbrev pub with_item : FirstItems → Item → FirstItems
with_item nothing title = titled
with_item titled (work runs steps) = worked runs steps
with_item (worked runs steps) (plan_count count) = planning runs steps count []
with_item (planning runs steps count plans) (plan p) = planning runs steps count (plans ++ (p ∷ []))
with_item (planning runs steps count plans) (run_count records) = running runs steps plans records []
with_item (running runs steps plans count records) (run r) =
    running runs steps plans count (records ++ (r ∷ []))
with_item front item = front

-- the bytes go on with an item that is of its form
pub record Goes (front : FirstItems) (bytes : Text) : Type 0 where
  pub item : Item
  pub fits : Fits front item
  pub rest : Text
  pub text : bytes ≡ item_text item ++ rest

-- all items of a saved book but its last line
abbrev pub all_of : Saved → FirstItems
all_of s = running s.runs s.steps s.plans (length s.records) s.records

-- the items are all of a saved book, and its last line follows
pub record Ends (front : FirstItems) (bytes : Text) : Type 0 where
  pub saved : Saved
  pub all : front ≡ all_of saved
  pub last : bytes ≡ end_text
