use Rattle.std.proofs.Common.{◌∷◌, sym, ap, ◌∙◌}
use Rattle.pap_reader.specs.Tags.{start, empty}
use Rattle.pap_reader.proofs.tags.read_close.Goals as goal

pub returns-then-first-eq62-clause-found : goal.returns-then-first-eq62-clause-found
returns-then-first-eq62-clause-found c =
    start (sym c.after_white.ensures.left ∙ c.in_ok-first.ensures ∙ ap (λ x. x ∷ c.in_ok-first.rest.now) c.if-first-eq62.true)

pub returns-clause-found : goal.returns-clause-found
returns-clause-found c =
    empty (sym c.after_white.ensures.left ∙ c.in_ok-first.ensures ∙ ap (λ x. x ∷ c.in_ok-first.rest.now) c.if-first-ne47.false ∙ ap (λ x. 47 ∷ x) c.in_ok-rest.ensures.found)
