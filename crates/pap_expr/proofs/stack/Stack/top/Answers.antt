use Rattle.std.proofs.Common.{◌≡◌, List, subst, MatchOption, ◌∷◌, []}
use Rattle.expr_grammar.specs.Machine as machine
use Rattle.pap_expr.specs.declared.frame.Frame.{Frame}
use Rattle.pap_expr.specs.private.Frames.{frame_of, frames_of}
use Rattle.pap_expr.proofs.FrameLemmas.{top_is}
use Rattle.pap_expr.proofs.stack.Stack.top.Goals as goal

pub returns : goal.returns
returns c =
    let h = c.last.ensures.item in
    subst (λ (fs : List Frame). MatchOption c.last.result (frames_of fs ≡ []) (λ f. (k : List machine.Frame) × (frames_of fs ≡ frame_of f.now ∷ k)))
    c.deref.ensures.value (top_is c.deref.result.now _ c.last.result h.1 h.3)
