use Rattle.std.proofs.Common.{ap, subst, ◌∙◌}
use Rattle.flowchart_comparison.specs.Comparisons.{line_texts}
use Rattle.flowchart_comparison.specs.Entries.{IsAlignment}
use Rattle.comment_comparison.specs.Comments.{comment_texts}
use Rattle.comment_comparison.specs.CommentChanges.{all_apart}
use Rattle.comment_comparison.proofs.AlignedLemmas.{are_changes}
use Rattle.comment_comparison.proofs.comparison.comment_changes.Goals as goal

pub returns : goal.returns
returns c =
    let entries = c.in_ok-entries.entries.items in
    let old = comment_texts c.args.old.now in
    let new = comment_texts c.args.new.now in
    let of_old = ap line_texts c.deref.ensures.value ∙ c.in_ok-old_lines.ensures in
    let of_new = ap line_texts c.deref-2.ensures.value ∙ c.in_ok-new_lines.ensures in
    let aligned = subst (λ l. IsAlignment l new entries) of_old
    (subst (λ l. IsAlignment (line_texts c.deref.result.now) l entries) of_new c.in_ok-entries.ensures.aligned) in
    are_changes old new entries c.deref-4.result.now c.in_ok-changes.changes.items aligned
    (c.deref-4.ensures.value ∙ c.in_ok-unaligned.ensures ∙ ap all_apart c.deref-3.ensures.value)
    c.in_ok-changes.ensures.some c.in_ok-changes.ensures.gone c.in_ok-changes.ensures.new_ones
