use Rattle.std.proofs.Common.{refl}
use Rattle.pap_expr.proofs.Counted.{test_counted}
use Rattle.pap_expr.proofs.expression.parse_expr_placed.Goals as goal

pub returns-clause-counted : goal.returns-clause-counted
returns-clause-counted c = test_counted c.args.text.now c.test.result (c.test.ensures.places refl)
