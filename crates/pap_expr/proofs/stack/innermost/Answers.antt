use Rattle.pap_expr.proofs.FrameLemmas.{top_is}
use Rattle.pap_expr.proofs.stack.innermost.Goals as goal

pub returns : goal.returns
returns c = let h = c.last.ensures.item in top_is c.args.frames.now _ c.last.result h.1 h.3
