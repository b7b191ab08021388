use Rattle.std.proofs.Common.{ap, ◌∙◌, arith}
use Rattle.expr_grammar.specs.Machine.{level}
use Rattle.pap_expr.specs.private.Frames.{frames_of}
use Rattle.pap_expr.proofs.FrameLemmas.{pushed}
use Rattle.pap_expr.proofs.stack.Stack.pop.Goals as goal

pub returns-clause-popped : goal.returns-clause-popped
returns-clause-popped c = ap frames_of c.in_ok-frame.ensures.items ∙ pushed c.pop.new.self.items c.in_ok-frame.frame

pub overflow_sub-self : goal.overflow_sub-self
overflow_sub-self c =
    let e = ap level (ap frames_of c.in_ok-frame.ensures.items ∙ pushed c.pop.new.self.items c.in_ok-frame.frame) in
    let o = c.levels.ensures.opens (frames_of c.pop.new.self.items) in
    omega (arith, e, o, c.args.self.now.counted)

pub invariant_of-self-2 : goal.invariant_of-self-2
invariant_of-self-2 c =
    let e = ap level (ap frames_of c.in_ok-frame.ensures.items ∙ pushed c.pop.new.self.items c.in_ok-frame.frame) in
    let o = c.levels.ensures.opens (frames_of c.pop.new.self.items) in
    record { counted = omega (arith, e, o, c.args.self.now.counted) }

pub returns-clause-fewer : goal.returns-clause-fewer
returns-clause-fewer c =
    let e = ap level (ap frames_of c.in_ok-frame.ensures.items ∙ pushed c.pop.new.self.items c.in_ok-frame.frame) in
    let o = c.levels.ensures.opens (frames_of c.pop.new.self.items) in
    omega (arith, e, o)
