use Rattle.std.proofs.Common.{◌≡◌, ◌++◌, take}
use Rattle.std.specs.List.{flat_map}
use Rattle.range_comparison.specs.Changes.{old_change}
use Rattle.range_comparison.specs.private.EntryViews.{entry_in}
use Rattle.range_comparison.proofs.changes.push_gone.Given as goal

abbrev pub invariant-loop-entry : goal.invariant-loop-entry
invariant-loop-entry l =
    l.changes.items
    ≡ l.initial.changes.items ++ flat_map (old_change (entry_in l.new l.new_places)) (take l.entry-index l.old)
