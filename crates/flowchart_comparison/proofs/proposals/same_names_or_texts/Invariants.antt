use Rattle.std.proofs.Common.{◌≡◌, ℕ, ◌<◌, length, get_or}
use Rattle.std.specs.Prelude.{None}
use Rattle.std.specs.Option.{option_or}
use Rattle.flowchart_comparison.specs.Comparisons.{item_texts}
use Rattle.flowchart_comparison.specs.Entries.{compared_text}
use Rattle.flowchart_comparison.specs.private.NameViews.{place_in}
use Rattle.flowchart_comparison.proofs.proposals.same_names_or_texts.Given as goal

abbrev pub invariant-loop-place : goal.invariant-loop-place
invariant-loop-place l = record {
  many : length l.proposed.items ≡ l.place;
  each : (k : ℕ) → k < l.place → get_or l.proposed.items k None
      ≡ option_or (get_or l.named.items k None) (place_in l.gone (compared_text (item_texts l.new) k));
}
