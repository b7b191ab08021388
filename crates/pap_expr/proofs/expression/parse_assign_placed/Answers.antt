use Rattle.std.proofs.Common.{refl}
use Rattle.pap_expr.proofs.Counted.{assign_counted}
use Rattle.pap_expr.proofs.expression.parse_assign_placed.Goals as goal

pub returns-clause-counted : goal.returns-clause-counted
returns-clause-counted c = assign_counted c.args.text.now c.assign.result (c.assign.ensures.places refl)
