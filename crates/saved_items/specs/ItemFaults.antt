-- What was read, as contracts see it: texts as their bytes.
use Rattle.std.specs.Prelude.{map, ⊤}
use Rattle.payroll_records.specs.Tables.{Text}
use Rattle.saved_items.specs.SavedBooks.{SavedPlan, Saved, saved_plan}
use Rattle.saved_items.specs.Texts.{StopsAtItem}
use Rattle.saved_items.specs.declared.items.SavedBook.{SavedBook}
use Rattle.saved_items.specs.declared.items.PlanItem.{PlanItem}
use Rattle.saved_items.specs.declared.items.ItemFault.{ItemFault}
use Rattle.saved_items.specs.declared.items.ItemFault.TheVariants as fault

-- a plan that was read, as its day and its texts
abbrev pub plan_in : PlanItem → SavedPlan
plan_in p = saved_plan p.day p.plan.now p.limits.now

-- the items that were read, as a saved book
abbrev pub saved_in : SavedBook → Saved
saved_in items = record {
  runs = items.runs;
  steps = items.steps;
  plans = map plan_in items.plans.items;
  records = items.records.items;
}

-- why a call refuses a text: the first item that isn't of its form, or memory ran out, which may be at any
-- text
abbrev pub IsItemFaultOrMemory : Text → ItemFault → Type 0
IsItemFaultOrMemory bytes (fault.Form item at plans) =
    StopsAtItem bytes (record { item = item; at = at; plans = map plan_in plans.items })
IsItemFaultOrMemory bytes (fault.Memory error) = ⊤
