use Rattle.std.proofs.Common.{length}
use Rattle.pap_expr.specs.private.Stacks.{stack_of}
use Rattle.pap_expr.proofs.reader.Reader.+close.Given as goal

abbrev pub decreases-close : goal.decreases-close
decreases-close l = length (stack_of l.self.now.stack)
