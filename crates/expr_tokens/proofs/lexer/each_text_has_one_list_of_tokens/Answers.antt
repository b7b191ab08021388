use Rattle.expr_tokens.proofs.Laws.{one_reading, always_read}
use Rattle.expr_tokens.proofs.lexer.each_text_has_one_list_of_tokens.Goals as goal

pub returns : goal.returns
returns c = record { always = λ text. always_read 0 text; one = λ text. one_reading 0 text }
