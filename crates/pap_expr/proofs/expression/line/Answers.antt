use Rattle.std.proofs.Common.{[], refl}
use Rattle.pap_expr.proofs.expression.line.Goals as goal

pub returns-in-Test-clause-places : goal.returns-in-Test-clause-places
returns-in-Test-clause-places c = c.read.ensures.places [] refl
