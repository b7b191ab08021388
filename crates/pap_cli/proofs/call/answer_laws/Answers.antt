use Rattle.plan_answers.proofs.Laws.{check_answers}
use Rattle.pap_cli.proofs.AnswerLemmas.{once_answers, printed_holds, words_kept}
use Rattle.pap_cli.proofs.call.answer_laws.Goals as goal

pub returns-clause-check : goal.returns-clause-check
returns-clause-check c = check_answers

pub returns-clause-accepted : goal.returns-clause-accepted
returns-clause-accepted c = printed_holds

pub returns-clause-once : goal.returns-clause-once
returns-clause-once c = once_answers

pub returns-clause-values : goal.returns-clause-values
returns-clause-values c = words_kept
