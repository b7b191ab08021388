use Rattle.pay_run.proofs.KeptLemmas.{filled_safe}
use Rattle.pay_run.proofs.inputs.run_laws.Goals as goal

pub returns : goal.returns
returns c = filled_safe
