use Rattle.std.proofs.Common.{sym, subst}
use Rattle.pap_tree.specs.Term.{method}
use Rattle.checked_run.specs.private.OperationViews.{TwoAnswer}
use Rattle.checked_run.proofs.operations.method_value.Goals as goal

pub returns-in-Add : goal.returns-in-Add
returns-in-Add c = λ kind.
    subst (λ m. TwoAnswer (method m) kind c.args.a c.args.b c.sum.result) (sym c.in-Add.is) (c.sum.ensures kind)

pub returns-in-Subtract : goal.returns-in-Subtract
returns-in-Subtract c = λ kind.
    subst (λ m. TwoAnswer (method m) kind c.args.a c.args.b c.difference.result) (sym c.in-Subtract.is)
    (c.difference.ensures kind)

pub returns-in-Multiply : goal.returns-in-Multiply
returns-in-Multiply c = λ kind.
    subst (λ m. TwoAnswer (method m) kind c.args.a c.args.b c.product.result) (sym c.in-Multiply.is)
    (c.product.ensures kind)

pub returns-in-DivideExact : goal.returns-in-DivideExact
returns-in-DivideExact c = λ kind.
    subst (λ m. TwoAnswer (method m) kind c.args.a c.args.b c.exact_quotient.result) (sym c.in-DivideExact.is)
    (c.exact_quotient.ensures kind)
