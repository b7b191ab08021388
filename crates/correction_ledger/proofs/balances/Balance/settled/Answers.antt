use Rattle.std.proofs.Common.{sym, subst}
use Rattle.scaled_decimal.specs.WorkingNumbers.{SumFits}
use Rattle.correction_ledger.proofs.DifferenceLemmas.{sum_fits}
use Rattle.correction_ledger.proofs.BalanceLemmas.{due_amount_is}
use Rattle.correction_ledger.proofs.balances.Balance.settled.Goals as goal

pub add-amount-requires : goal.add-amount-requires
add-amount-requires c =
    subst (λ a. SumFits c.args.self.now.filed a) (sym (due_amount_is c.args.self.now c.in-Some.due c.in-Some.ensures))
    (sum_fits c.args.self.now.reported c.args.self.now.filed c.requires.reported c.requires.filed)
