use Rattle.std.proofs.Common.{◌≡◌, ◌++◌}
use Rattle.std.specs.Vec.Iter.{into_iter_items}
use Rattle.book_edits.specs.private.Groups.{AreGroups}
use Rattle.book_edits.proofs.groups.groups_of.Given as goal

abbrev pub invariant-loop-item : goal.invariant-loop-item
invariant-loop-item l = record {
  groups : AreGroups l.yielded l.groups.items;
  rest : l.yielded ++ into_iter_items l.item-iterator ≡ l.fn.items.items;
}
