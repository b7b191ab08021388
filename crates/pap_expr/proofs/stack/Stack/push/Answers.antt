use Rattle.std.proofs.Common.{ap, ◌∙◌, arith}
use Rattle.expr_grammar.specs.Machine.{level}
use Rattle.pap_expr.specs.private.Frames.{frames_of}
use Rattle.pap_expr.proofs.FrameLemmas.{pushed}
use Rattle.pap_expr.proofs.stack.Stack.push.Goals as goal

pub returns-clause-pushed : goal.returns-clause-pushed
returns-clause-pushed c = ap frames_of c.in_ok-push.ensures.items ∙ pushed c.args.self.now.frames.items c.args.frame

pub invariant_of-self-2 : goal.invariant_of-self-2
invariant_of-self-2 c =
    let e = ap level (ap frames_of c.in_ok-push.ensures.items ∙ pushed c.args.self.now.frames.items c.args.frame) in
    record { counted = let o = c.levels.ensures.opens (frames_of c.args.self.now.frames.items) in omega (arith, e, c.args.self.now.counted) }
