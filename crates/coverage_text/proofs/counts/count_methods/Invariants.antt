use Rattle.std.proofs.Common.{◌≡◌, take}
use Rattle.coverage_text.specs.CoverageItems.{method_counts}
use Rattle.coverage_text.specs.Shares.{IsCountedWithin}
use Rattle.coverage_text.proofs.counts.count_methods.Given as goal

abbrev pub invariant-loop-method : goal.invariant-loop-method
invariant-loop-method l = record {
  so_far : l.counts ≡ method_counts (take l.method-index l.methods);
  within : IsCountedWithin l.counts;
}
