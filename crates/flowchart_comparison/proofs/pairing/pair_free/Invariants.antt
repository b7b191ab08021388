use Rattle.std.proofs.Common.{length}
use Rattle.flowchart_comparison.specs.Comparisons.{item_names, item_texts}
use Rattle.flowchart_comparison.specs.Entries.{PairsNames}
use Rattle.flowchart_comparison.proofs.PairingLemmas.{IsPaired}
use Rattle.flowchart_comparison.proofs.PartnerLemmas.{ArePaired}
use Rattle.flowchart_comparison.proofs.pairing.pair_free.Given as goal

abbrev pub invariant-loop-new_place : goal.invariant-loop-new_place
invariant-loop-new_place l = record {
  paired : IsPaired (item_texts l.old) (item_texts l.new) l.free 0 l.new_place l.entries.items;
  partners : ArePaired (item_names l.old) (item_names l.new) l.free l.new_place l.entries.items;
}

abbrev pub invariant-loop-old_place : goal.invariant-loop-old_place
invariant-loop-old_place l = record {
  paired : IsPaired (item_texts l.old) (item_texts l.new) l.free l.old_place (length l.new) l.entries.items;
  named : PairsNames (item_names l.old) (item_names l.new) l.entries.items;
}
