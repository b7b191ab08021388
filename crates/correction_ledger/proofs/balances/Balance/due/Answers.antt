use Rattle.correction_ledger.proofs.DifferenceLemmas.{difference_fits}
use Rattle.correction_ledger.proofs.balances.Balance.due.Goals as goal

pub sub-requires : goal.sub-requires
sub-requires c = difference_fits c.args.self.now.reported c.args.self.now.filed c.requires.reported c.requires.filed
