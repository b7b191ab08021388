use Rattle.pap_tree.specs.Spelling.{spelling}
use Rattle.pap_tree.specs.Grammar.{Level, tree}
use Rattle.expr_grammar.specs.Lines.{a_test}
use Rattle.expr_grammar.proofs.Laws.{one_text}
use Rattle.expr_tokens.proofs.Laws.{one_reading}
use Rattle.pap_expr.proofs.LawLemmas.{only_deep}
use Rattle.pap_expr.proofs.TextLemmas.{text_of}
use Rattle.pap_expr.proofs.laws.spellings_are_read_back.Goals as goal

pub returns-clause-tree : goal.returns-clause-tree
returns-clause-tree c = λ x y h k.
    let e = one_text (one_reading 0) (Level 0) a_test (spelling x) (tree y) (tree x) (text_of (Level 0) (spelling x) (tree y) k) (c.spelling_is_a_text.ensures x h) in
    cc

pub returns-clause-limits : goal.returns-clause-limits
returns-clause-limits c = λ x b at h w.
    only_deep (Level 0) (spelling x) (tree x) b at (c.reads_fronts.ensures.of_texts (Level 0) a_test) (c.spelling_is_a_text.ensures x h) w
