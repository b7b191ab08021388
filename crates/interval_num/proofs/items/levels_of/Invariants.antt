use Rattle.std.proofs.Common.{◌≡◌, List, [], ◌∷◌, ◌++◌, length}
use Rattle.interval_num.specs.Rows.{RowAnswer}
use Rattle.interval_num.specs.ItemLevels.{AreLevels, first_level, single_rows}
use Rattle.interval_num.proofs.items.levels_of.Given as goal

abbrev pub invariant-loop-alloc : goal.invariant-loop-alloc
invariant-loop-alloc l = record {
  first : first_level (l.levels.items ++ (l.level ∷ [])) ≡ single_rows l.items;
  under : (rest : List (List RowAnswer)) → AreLevels (l.level ∷ rest) → AreLevels (l.levels.items ++ (l.level ∷ rest));
}

abbrev pub decreases-loop-alloc : goal.decreases-loop-alloc
decreases-loop-alloc l = length l.level
