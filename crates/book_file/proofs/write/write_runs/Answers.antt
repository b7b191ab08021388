use Rattle.std.proofs.Common.{arith}
use Rattle.saved_items.specs.SavedBooks.{IsRun}
use Rattle.book_file.proofs.WriteLemmas.{more_runs, one_more}
use Rattle.book_file.proofs.write.write_runs.Goals as goal

pub loop-run-preserved : goal.loop-run-preserved
loop-run-preserved c = record {
  text =
      more_runs c.args.text.now.items c.loop-run.text.items c.push_run.new.out.items c.args.runs.now c.loop-run.run-index c.run-item.result
      (omega arith) c.run-item.is c.loop-run.invariant.text c.in_ok-push_run.ensures;
  runs = one_more IsRun c.args.runs.now c.loop-run.run-index c.run-item.result (omega arith) c.run-item.is c.run_law.ensures c.loop-run.invariant.runs;
}
