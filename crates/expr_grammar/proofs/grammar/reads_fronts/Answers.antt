use Rattle.expr_grammar.proofs.Reading.{machine_front, front_front, text_begins, front_run, most_open, so_open}
use Rattle.expr_grammar.proofs.grammar.reads_fronts.Goals as goal

pub returns-clause-fronts : goal.returns-clause-fronts
returns-clause-fronts c = λ l w ts. (λ h. machine_front l w ts h.0 h.1, λ h. front_run l w ts h)

pub returns-clause-levels : goal.returns-clause-levels
returns-clause-levels c = λ l w ts s e. (so_open l w ts s e, most_open l w ts s e)

pub returns-clause-of_fronts : goal.returns-clause-of_fronts
returns-clause-of_fronts c = λ l w a b h. front_front l w a b h

pub returns-clause-of_texts : goal.returns-clause-of_texts
returns-clause-of_texts c = λ l w a b x h. text_begins l w a b x h
