use Rattle.std.proofs.Common.{arith, sym}
use Rattle.carry_bindings.proofs.OutputLemmas.{one_name_more, same_name}
use Rattle.carry_bindings.proofs.outputs.same_names.Goals as goal

pub loop-at-preserved : goal.loop-at-preserved
loop-at-preserved c =
    one_name_more c.args.before.now c.args.outputs.now c.loop-at.at c.index-before-at.result c.index-outputs-at.result (omega (arith, c.if-before-outputs.false)) c.loop-at-test.true
    c.index-before-at.is c.index-outputs-at.is (sym (same_name c.index-outputs-at.result.name c.index-before-at.result.name (rw (← c.index-before-at.is) at c.if-ne.ensures))) c.loop-at.invariant
