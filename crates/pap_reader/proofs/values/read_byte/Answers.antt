use Rattle.std.proofs.Common.{◌∷◌, ap, ◌∙◌}
use Rattle.pap_reader.proofs.Lexing.{or_escape}
use Rattle.pap_reader.proofs.values.read_byte.Goals as goal

pub returns-then-first-eq38-clause-found : goal.returns-then-first-eq38-clause-found
returns-then-first-eq38-clause-found c =
    let a = c.in_ok-first.ensures in
    let b = c.if-first-eq38.true in
    or_escape c.args.quote c.args.bytes.now c.in_ok-first.rest.now c.read_escape.result (a ∙ ap (λ x. x ∷ c.in_ok-first.rest.now) b) c.read_escape.ensures.found
