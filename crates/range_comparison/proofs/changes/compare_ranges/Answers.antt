use Rattle.std.proofs.Common.{ap, ◌∙◌, map}
use Rattle.range_comparison.specs.declared.entry.RangeEntry.TheVariants.{Input, Bind}
use Rattle.range_comparison.proofs.ChangeLemmas.{all_changes}
use Rattle.range_comparison.proofs.changes.compare_ranges.Goals as goal

pub returns : goal.returns
returns c =
    all_changes c.args.old.now c.args.new.now c.deref.result.now c.deref-2.result.now c.deref-3.result.now
    c.deref-4.result.now c.new-changes.result.items c.compare_entries.new.changes.items
    c.compare_entries-2.new.changes.items c.new-changes.ensures.items
    (c.deref.ensures.value ∙ c.in_ok-old_inputs.ensures ∙ ap (λ ls. map (λ l. Input l) ls) c.as_slice.ensures)
    (c.deref-2.ensures.value ∙ c.in_ok-new_inputs.ensures ∙ ap (λ ls. map (λ l. Input l) ls) c.as_slice-2.ensures)
    (c.deref-3.ensures.value ∙ c.in_ok-old_bindings.ensures ∙ ap (λ bs. map (λ b. Bind b) bs) c.as_slice-3.ensures)
    (c.deref-4.ensures.value ∙ c.in_ok-new_bindings.ensures ∙ ap (λ bs. map (λ b. Bind b) bs) c.as_slice-4.ensures)
    c.in_ok-compare_entries.ensures c.in_ok-compare_entries-2.ensures
