use Rattle.std.proofs.Common.{sym, subst}
use Rattle.pap_tree.specs.Shapes.{two_meant}
use Rattle.checked_run.specs.private.OperationViews.{TwoAnswer}
use Rattle.checked_run.proofs.operations.two_value.Goals as goal

pub returns-in-Method : goal.returns-in-Method
returns-in-Method c =
    subst (λ op. TwoAnswer (two_meant op) c.args.kind c.args.a c.args.b c.method_value.result) (sym c.in-Method.is)
    (c.method_value.ensures c.args.kind)

pub returns-in-Divide : goal.returns-in-Divide
returns-in-Divide c =
    subst (λ op. TwoAnswer (two_meant op) c.args.kind c.args.a c.args.b c.quotient.result) (sym c.in-Divide.is)
    (c.quotient.ensures c.args.kind)
