use Rattle.outside.proofs.Bytes.{Keeps-nothing, Keeps-then, Consumes-after}
use Rattle.outside.proofs.real.read_once.Goals as goal

pub loop-init : goal.loop-init
loop-init g c = Keeps-nothing _

pub loop-preserved : goal.loop-preserved
loop-preserved g c = Keeps-then _ _ _ c.loop.invariant c.in-Err.ensures.bytes

pub returns-in-Ok-clause-bytes : goal.returns-in-Ok-clause-bytes
returns-in-Ok-clause-bytes g c = (Consumes-after _ _ _ _ c.loop.invariant c.in-Ok.ensures.bytes.0, c.in-Ok.ensures.bytes.1)

pub returns-then-ne-clause-bytes : goal.returns-then-ne-clause-bytes
returns-then-ne-clause-bytes g c = Keeps-then _ _ _ c.loop.invariant c.in-Err.ensures.bytes
