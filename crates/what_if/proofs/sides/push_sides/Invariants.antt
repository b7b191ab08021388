use Rattle.std.proofs.Common.{◌≡◌, ◌++◌}
use Rattle.std.specs.List.{filter_map}
use Rattle.what_if.specs.private.SideViews.{side_row}
use Rattle.what_if.proofs.sides.push_sides.Given as goal

abbrev pub invariant-loop-side : goal.invariant-loop-side
invariant-loop-side l = l.rows.items ++ filter_map (side_row l.key) l.side-iterator ≡ l.initial.rows.items ++
    filter_map (side_row l.key) l.initial.side-iterator
