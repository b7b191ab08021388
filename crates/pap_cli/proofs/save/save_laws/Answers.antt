use Rattle.pap_cli.proofs.GoingOnLemmas.{go_on, saved_again}
use Rattle.pap_cli.proofs.SaveLawLemmas.{one_save}
use Rattle.pap_cli.proofs.save.save_laws.Goals as goal

pub returns-clause-one : goal.returns-clause-one
returns-clause-one c = one_save c.saving_laws.ensures.some c.saving_laws.ensures.one

pub returns-clause-on : goal.returns-clause-on
returns-clause-on c = go_on

pub returns-clause-again : goal.returns-clause-again
returns-clause-again c = saved_again c.saving_laws.ensures.one
