use Rattle.expr_grammar.specs.Machine.{level}
use Rattle.pap_expr.specs.private.Stacks.{stack_of}
use Rattle.pap_expr.proofs.reader.Reader.call.Goals as goal
use Rattle.pap_expr.proofs.reader.Reader.call.Goals.{in-Negate, in-Abs, in-SetScale}

pub returns-in-Applied : goal.returns-in-Applied
returns-in-Applied c =
    rw (c.in-Applied.is, ← c.in_ok-receiver.ensures.ok) (c.opened.ensures (level (stack_of c.args.self.now.stack)))

pub returns : goal.returns
returns c =
    let k = stack_of c.args.self.now.stack in
    let due = c.due.ensures (level k) k in
    elim c.match-method.branch [
      | in-Negate w ↦ let d = rw w.next-is at due in rw (w.in-Negate.is, ← c.in_ok-receiver.ensures.ok) d
      | in-Abs w ↦ let d = rw w.next-is at due in rw (w.in-Abs.is, ← c.in_ok-receiver.ensures.ok) d
      | in-SetScale w ↦ let d = rw w.next-is at due in rw (w.in-SetScale.is, ← c.in_ok-receiver.ensures.ok) d
    ]
