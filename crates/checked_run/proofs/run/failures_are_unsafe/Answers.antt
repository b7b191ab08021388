use Rattle.checked_run.proofs.UnsafeLemmas.{run_unsafe}
use Rattle.checked_run.proofs.run.failures_are_unsafe.Goals as goal

pub returns : goal.returns
returns c = run_unsafe
