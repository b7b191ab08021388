use Rattle.std.proofs.Common.{take, refl}
use Rattle.pap_tree.specs.White.{is_white}
use Rattle.expr_tokens.proofs.FrontLemmas.{longest_by}
use Rattle.expr_tokens.proofs.lexer.skip_white.Goals as goal

pub returns : goal.returns
returns c =
    let n = c.white_len.result in
    (take n c.args.bytes.now, longest_by is_white c.args.bytes.now (take n c.args.bytes.now) c.split_at.result.1.now n c.white_len.ensures.count refl c.split_at.ensures.back)
