use Rattle.correction_ledger.proofs.AnswerLemmas.{filing_answers, owed_answers}
use Rattle.correction_ledger.proofs.OwedLemmas.{filing_settles, owed_settles}
use Rattle.correction_ledger.proofs.PartLemmas.{dues_joined, filings_joined}
use Rattle.correction_ledger.proofs.SomeLemmas.{owed_one}
use Rattle.correction_ledger.proofs.ledger.owed_laws.Goals as goal

pub returns-clause-one : goal.returns-clause-one
returns-clause-one c = owed_one

pub returns-clause-settles : goal.returns-clause-settles
returns-clause-settles c rows entries month dues p h t = owed_settles rows entries month dues h p t

pub returns-clause-nothing : goal.returns-clause-nothing
returns-clause-nothing c = filing_settles

pub returns-clause-filing : goal.returns-clause-filing
returns-clause-filing c = filing_answers

pub returns-clause-owed : goal.returns-clause-owed
returns-clause-owed c = owed_answers

pub returns-clause-joined : goal.returns-clause-joined
returns-clause-joined c = dues_joined

pub returns-clause-filings_joined : goal.returns-clause-filings_joined
returns-clause-filings_joined c = filings_joined
