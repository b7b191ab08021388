use Rattle.pap_tree.proofs.PaddedLemmas.{placed_short}
use Rattle.pap_tree.proofs.short_text.ShortText.read.Goals as goal

pub invariant_of-result : goal.invariant_of-result
invariant_of-result c =
    let ascii = c.if-not-is_ascii.ensures.cases in
    rw c.copy_from_slice.ensures.after (placed_short c.args.text.now (record { short = c.if-text-gt-LONGEST.false; ascii = ascii }))
