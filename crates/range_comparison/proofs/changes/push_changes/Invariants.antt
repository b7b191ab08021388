use Rattle.std.proofs.Common.{◌≡◌, ◌++◌, take}
use Rattle.std.specs.List.{flat_map}
use Rattle.range_comparison.specs.Changes.{new_change}
use Rattle.range_comparison.specs.private.EntryViews.{entry_in}
use Rattle.range_comparison.proofs.changes.push_changes.Given as goal

abbrev pub invariant-loop-entry : goal.invariant-loop-entry
invariant-loop-entry l =
    l.changes.items
    ≡ l.initial.changes.items ++ flat_map (new_change (entry_in l.old l.old_places)) (take l.entry-index l.new)
