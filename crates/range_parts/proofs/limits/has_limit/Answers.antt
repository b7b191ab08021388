use Rattle.std.proofs.Common.{sym}
use Rattle.pap_tree.specs.Declarations.{declaration_of}
use Rattle.range_parts.proofs.LimitLemmas.{limit_is}
use Rattle.range_parts.proofs.limits.has_limit.Goals as goal

pub returns-in-Some : goal.returns-in-Some
returns-in-Some c = λ holds.
    limit_is c.args.limits.now (declaration_of c.args.input.now) c.in-Some.limit.now c.requires (sym c.in-Some.ensures)
    (c.suits_limit.ensures holds)
