use Rattle.call_order.proofs.Closed.{chains_close}
use Rattle.call_order.proofs.theorems.chain_laws.Goals as goal

pub returns : goal.returns
returns c = chains_close
