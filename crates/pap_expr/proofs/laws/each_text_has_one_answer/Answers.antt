use Rattle.expr_tokens.proofs.Laws.{one_reading, always_read}
use Rattle.expr_grammar.proofs.Laws.{accepted_or_wrong, one_wrong, always_said}
use Rattle.pap_expr.proofs.laws.each_text_has_one_answer.Goals as goal

pub returns-clause-always : goal.returns-clause-always
returns-clause-always c = always_said (always_read 0)

pub returns-clause-not_both : goal.returns-clause-not_both
returns-clause-not_both c = accepted_or_wrong (one_reading 0)

pub returns-clause-one_fault : goal.returns-clause-one_fault
returns-clause-one_fault c = one_wrong (one_reading 0)
