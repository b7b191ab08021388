use Rattle.std.proofs.Common.{arith}
use Rattle.pap_reader.proofs.TokenLemmas.{comment_found, comment_size}
use Rattle.pap_reader.proofs.tokens.read_comment.Goals as goal

pub overflow_sub-end-2 : goal.overflow_sub-end-2
overflow_sub-end-2 c =
    omega (arith, comment_size c.in_ok-inner.inner.now c.in_ok-rest.rest.now c.in_ok-rest.ensures.found)

pub returns-clause-found : goal.returns-clause-found
returns-clause-found c =
    comment_found c.args.bytes.now c.in_ok-inner.inner.now c.in_ok-rest.rest.now c.in_ok-inner.ensures
    c.in_ok-rest.ensures.found
