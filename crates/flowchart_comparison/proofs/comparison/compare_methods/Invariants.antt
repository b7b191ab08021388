use Rattle.std.proofs.Common.{◌≡◌, map, take}
use Rattle.std.specs.List.{All}
use Rattle.flowchart_comparison.specs.Comparisons.{ComparedMethod, AreLinesTold}
use Rattle.flowchart_comparison.proofs.comparison.compare_methods.Given as goal

abbrev pub invariant-loop-pair : goal.invariant-loop-pair
invariant-loop-pair l = record {
  methods : map (λ (m : ComparedMethod). m.method) l.methods.items ≡ take l.pair-index l.pairs;
  lines : All (λ (m : ComparedMethod). AreLinesTold l.old l.new m.method m.lines) l.methods.items;
}
