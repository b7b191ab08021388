use Rattle.std.proofs.Common.{arith}
use Rattle.run_trace.proofs.PageLemmas.{one_output}
use Rattle.run_trace.proofs.page.write_output_rows.Goals as goal

pub loop-output-preserved : goal.loop-output-preserved
loop-output-preserved c =
    one_output c.args.part.now c.loop-output.part c.write_output.new.part c.args.outputs.now c.loop-output.output-index
    c.output-item.result (omega arith) c.output-item.is c.loop-output.invariant c.in_ok-write_output.ensures
