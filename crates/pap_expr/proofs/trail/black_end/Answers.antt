use Rattle.std.proofs.Common.{sym, ◌∙◌, arith}
use Rattle.pap_expr.proofs.TrackLemmas.{still_white, not_white}
use Rattle.pap_expr.proofs.trail.black_end.Goals as goal

pub loop-end-preserved : goal.loop-end-preserved
loop-end-preserved c = record { same = c.loop-end.invariant.same ∙ still_white c.args.text.now c.loop-end.end (omega arith) (sym c.is_white_at.ensures ∙ c.if-not-is_white_at.false) }

pub returns-then-not-is_white_at : goal.returns-then-not-is_white_at
returns-then-not-is_white_at c = sym (c.loop-end.invariant.same ∙ not_white c.args.text.now c.loop-end.end (omega arith) (sym c.is_white_at.ensures ∙ c.if-not-is_white_at.true))
