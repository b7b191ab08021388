use Rattle.std.proofs.Common.{arith}
use Rattle.author_cli.proofs.FrontLemmas.{two_fronts}
use Rattle.author_cli.proofs.compared.read_two.Goals as goal

pub returns-clause-read : goal.returns-clause-read
returns-clause-read g c = λ files told.
    let old = c.in_ok-old_bytes in
    let new = c.in_ok-new_bytes in
    two_fronts files c.args.old.now c.args.new.now old.old_bytes.items new.new_bytes.items
    old.ensures.same old.ensures.front (grind arith) new.ensures.same new.ensures.front (grind arith)
