use Rattle.pap_expr.specs.private.Stacks.{stack_of}
use Rattle.pap_expr.proofs.reader.Reader.ended.Goals as goal

pub returns-in_default-Close : goal.returns-in_default-Close
returns-in_default-Close c = rw c.in_default-Close.is-1 (c.closed.ensures (stack_of c.args.self.now.stack))
