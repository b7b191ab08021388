use Rattle.std.proofs.Common.{sym, subst}
use Rattle.expr_tokens.specs.private.Views.{Begins}
use Rattle.expr_tokens.proofs.WordLemmas.{word_begins}
use Rattle.expr_tokens.proofs.word.split_word.Goals as goal

pub word_token-requires : goal.word_token-requires
word_token-requires c =
    (word_begins c.args.bytes.now c.split_at.result.0.now c.split_at.result.1.now c.word_len.result c.requires c.word_len.ensures.count c.split_at.ensures.front c.split_at.ensures.back).0

pub returns : goal.returns
returns c =
    subst (λ t. Begins c.args.bytes.now t c.split_at.result.1.now) (sym c.word_token.ensures)
    (word_begins c.args.bytes.now c.split_at.result.0.now c.split_at.result.1.now c.word_len.result c.requires c.word_len.ensures.count c.split_at.ensures.front c.split_at.ensures.back).1
