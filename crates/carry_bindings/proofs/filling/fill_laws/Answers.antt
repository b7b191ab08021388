use Rattle.carry_bindings.proofs.FitLemmas.{told}
use Rattle.carry_bindings.proofs.filling.fill_laws.Goals as goal

pub returns : goal.returns
returns c = told
