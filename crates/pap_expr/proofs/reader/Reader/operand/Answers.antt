use Rattle.pap_expr.specs.private.Stacks.{stack_of}
use Rattle.pap_expr.proofs.reader.Reader.operand.Goals as goal

pub returns-in-Keyword : goal.returns-in-Keyword
returns-in-Keyword c = rw c.in-Keyword.is (c.class.ensures (stack_of c.args.self.now.stack))
