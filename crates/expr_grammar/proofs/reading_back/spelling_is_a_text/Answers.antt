use Rattle.expr_grammar.proofs.ReadingBack.{reads_back}
use Rattle.expr_grammar.proofs.reading_back.spelling_is_a_text.Goals as goal

pub returns : goal.returns
returns c = reads_back
