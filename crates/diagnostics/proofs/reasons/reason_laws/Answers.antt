use Rattle.diagnostics.proofs.ReasonLemmas.{first_named}
use Rattle.diagnostics.proofs.reasons.reason_laws.Goals as goal

pub returns : goal.returns
returns c = first_named
