use Rattle.std.proofs.Common.{arith}
use Rattle.run_trace.proofs.PageLemmas.{one_row}
use Rattle.run_trace.proofs.page.write_input_rows.Goals as goal

pub loop-at-preserved : goal.loop-at-preserved
loop-at-preserved c =
    one_row c.args.given.now c.args.declared.now c.args.inputs.now c.loop-at.at c.index-declared-at.result
    c.index-inputs-at.result c.loop-at.part c.write_input.new.part _ c.index-declared-at.is (omega arith) c.index-inputs-at.is
    (omega (arith, c.requires)) c.loop-at.invariant c.in_ok-write_input.ensures
