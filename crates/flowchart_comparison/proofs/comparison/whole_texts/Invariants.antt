use Rattle.std.proofs.Common.{◌≡◌, map, take}
use Rattle.flowchart_comparison.specs.Comparisons.{item_names, item_texts, lined_names, method_text}
use Rattle.flowchart_comparison.proofs.comparison.whole_texts.Given as goal

abbrev pub invariant-loop-method : goal.invariant-loop-method
invariant-loop-method l = record {
  texts : item_texts l.items.items ≡ map method_text (take l.method-index l.methods);
  names : item_names l.items.items ≡ lined_names (take l.method-index l.methods);
}
