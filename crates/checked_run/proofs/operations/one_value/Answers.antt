use Rattle.std.proofs.Common.{sym, subst}
use Rattle.pap_tree.specs.Term.{term_of}
use Rattle.pap_tree.specs.Shapes.{one_meant}
use Rattle.checked_run.specs.private.OperationViews.{OneAnswer}
use Rattle.checked_run.proofs.operations.one_value.Goals as goal

pub returns-in-Unary : goal.returns-in-Unary
returns-in-Unary c =
    subst (λ op. OneAnswer (one_meant op) c.args.kind (term_of c.args.operand.now) c.args.a c.unary_value.result)
    (sym c.in-Unary.is) (c.unary_value.ensures (term_of c.args.operand.now))

pub returns-in-SetScale : goal.returns-in-SetScale
returns-in-SetScale c =
    subst (λ op. OneAnswer (one_meant op) c.args.kind (term_of c.args.operand.now) c.args.a c.rescaled.result)
    (sym c.in-SetScale.is) (c.rescaled.ensures c.args.kind (term_of c.args.operand.now))
