use Rattle.what_if.proofs.NamedLemmas.{named_change, rows_tell, unnamed_stay, untold_stay}
use Rattle.what_if.proofs.StateLemmas.{states_one}
use Rattle.what_if.proofs.trials.trial_laws.Goals as goal

pub returns-clause-one : goal.returns-clause-one
returns-clause-one c = states_one

pub returns-clause-stay : goal.returns-clause-stay
returns-clause-stay c = unnamed_stay

pub returns-clause-change : goal.returns-clause-change
returns-clause-change c = named_change

pub returns-clause-tell : goal.returns-clause-tell
returns-clause-tell c = rows_tell

pub returns-clause-untold : goal.returns-clause-untold
returns-clause-untold c = untold_stay
