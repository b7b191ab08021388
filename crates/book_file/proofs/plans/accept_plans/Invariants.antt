use Rattle.std.proofs.Common.{map, take}
use Rattle.saved_items.specs.ItemFaults.{plan_in}
use Rattle.book_year.specs.Accepted.{plans_in}
use Rattle.book_file.specs.private.Views.{AreEntriesOf}
use Rattle.book_file.proofs.plans.accept_plans.Given as goal

abbrev pub invariant-loop-item : goal.invariant-loop-item
invariant-loop-item l = AreEntriesOf (map plan_in (take l.item-index l.items)) (plans_in l.plans)
