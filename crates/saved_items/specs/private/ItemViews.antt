-- What the private functions say of items, and of what was read so far.
use Rattle.std.specs.Prelude.{◌≡◌, List, [], ◌∷◌, ◌++◌, map, length, Option, MatchOption}
use denote.Ref.{Bor}
use Rattle.payroll_records.specs.Tables.{Text}
use Rattle.payroll_records.specs.declared.record.Record.{Record}
use Rattle.saved_items.specs.Fronts as front
use Rattle.saved_items.specs.private.ItemDecisions as items
use Rattle.saved_items.specs.private.ItemDecisions.{item_text}
use Rattle.saved_items.specs.private.LineViews.{ReadsLine}
use Rattle.saved_items.specs.SavedBooks.{Saved, SavedPlan, end_text}
use Rattle.saved_items.specs.ItemFaults.{plan_in, saved_in}
use Rattle.saved_items.specs.declared.items.PlanItem.{PlanItem}
use Rattle.saved_items.specs.declared.item_words.PlanLine.{PlanLine}
use Rattle.saved_items.specs.declared.item.Item.{Item}
use Rattle.saved_items.specs.declared.item.Item.TheVariants as code
use Rattle.saved_items.specs.declared.lines.Line.{Line}
use Rattle.saved_items.specs.declared.front.Front.{Front}
use Rattle.saved_items.specs.declared.front.Stage.{Stage}
use Rattle.saved_items.specs.declared.front.Stage.TheVariants as stage

abbrev pub item_in : Item → items.Item
item_in code.Title = items.title
item_in (code.Work runs steps) = items.work runs steps
item_in (code.PlanCount count) = items.plan_count count
item_in (code.Plan p) = items.plan (plan_in p)
item_in (code.RunCount count) = items.run_count count
item_in (code.Run r) = items.run r

-- the next item of some form was read, or there is none
abbrev pub Reads : (items.Item → Type 0) → Text → Option (Item × Bor Text) → Type 0
Reads IsOfForm bytes next = MatchOption next
    ((i : items.Item) (rest : Text) → IsOfForm i → bytes ≡ item_text i ++ rest → ⊥)
    (λ n. IsOfForm (item_in n.0) × (bytes ≡ item_text (item_in n.0) ++ n.1.now))

-- the same of all bytes that this line begins
abbrev pub ReadsBehind : (items.Item → Type 0) → Line → Option (Item × Bor Text) → Type 0
ReadsBehind IsOfForm line next = (bytes : Text) → ReadsLine bytes line → Reads IsOfForm bytes next

-- the items so far, by what comes next
abbrev pub front_at : Stage → Saved → front.FirstItems
front_at stage.Title s = front.nothing
front_at stage.Work s = front.titled
front_at stage.PlanCount s = front.worked s.runs s.steps
front_at (stage.Plans count) s = front.planning s.runs s.steps count s.plans
front_at (stage.Runs count) s = front.running s.runs s.steps s.plans count s.records

abbrev pub front_in : Front → front.FirstItems
front_in f = front_at f.stage (saved_in f.items)

abbrev pub records_in : front.FirstItems → List Record
records_in front.nothing = []
records_in front.titled = []
records_in (front.worked runs steps) = []
records_in (front.planning runs steps count plans) = []
records_in (front.running runs steps plans count records) = records

-- the plans and the runs of the items so far are all that were read
pub record IsKnown (f : Front) : Type 0 where
  pub plans : front.plans_of_first (front_in f) ≡ map plan_in f.items.plans.items
  pub records : records_in (front_in f) ≡ f.items.records.items

abbrev pub plans_of : List PlanItem → List SavedPlan
plans_of plans = map plan_in plans

-- the bytes begin with two texts of these lengths and a line feed
pub record HasTexts (line : PlanLine) (bytes : Text) (p : PlanItem) (rest : Text) : Type 0 where
  pub day : p.day ≡ line.day
  pub plan : length p.plan.now ≡ line.plan
  pub limits : length p.limits.now ≡ line.limits
  pub text : bytes ≡ (p.plan.now ++ (p.limits.now ++ (10 ∷ []))) ++ rest

abbrev pub HasNoTexts : PlanLine → Text → Type 0
HasNoTexts line bytes =
    (plan limits rest : Text) → length plan ≡ line.plan → length limits ≡ line.limits →
    bytes ≡ (plan ++ (limits ++ (10 ∷ []))) ++ rest → ⊥

-- the bytes begin with the items that were read, and no item that is of its form follows them
pub record StandsStill (bytes : Text) (f : Front) (rest : Text) : Type 0 where
  pub sound : front.AreFirstItems (front_in f)
  pub text : bytes ≡ front.front_text (front_in f) ++ rest
  pub known : IsKnown f
  pub still : items.Goes (front_in f) rest → ⊥

-- all runs were read
abbrev pub IsComplete : Front → Type 0
IsComplete f = f.stage ≡ stage.Runs (length f.items.records.items)

-- all items of what was read, and the last line behind them
abbrev pub EndsWith : Front → Text → Type 0
EndsWith f rest = (front_in f ≡ items.all_of (saved_in f.items)) × (rest ≡ end_text)
