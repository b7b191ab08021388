use Rattle.std.proofs.Common.{ap, ◌∙◌, ◌++◌, ◌∷◌, [], append_assoc, replicate}
use Rattle.std.proofs.lemmas.List.{replicate_more}
use Rattle.range_marks.proofs.text.push_zeros.Goals as goal

pub loop-preserved : goal.loop-preserved
loop-preserved c =
    let old = c.args.text.now.items in
    c.in_ok-extend_from_slice.ensures.items ∙ ap (λ l. l ++ (0x30 ∷ [])) c.loop.invariant
    ∙ append_assoc old (replicate c.loop.counter 0x30) (0x30 ∷ []) ∙ ap (λ l. old ++ l) (replicate_more c.loop.counter 0x30)
