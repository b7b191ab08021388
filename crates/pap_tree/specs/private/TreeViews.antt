-- What private contracts of crates above say of trees as the code holds them.
use Rattle.std.specs.Prelude.{List}
use Rattle.pap_tree.specs.declared.expression.Expr.{Expr}
use Rattle.pap_tree.specs.declared.plan.PlanText.{PlanText}
use Rattle.pap_tree.specs.declared.plan.Stmt.{Stmt}
use Rattle.pap_tree.specs.Term.{Term, term_of, One, one, Two, two, choice}
use Rattle.pap_tree.specs.Flowchart.{Body, branch, done, body_of, Routine, flowchart_of}

-- ---- the terms of operations on expressions

abbrev pub one_of : One → Expr → Term
one_of op e = one op (term_of e)

abbrev pub two_of : Two → Expr → Expr → Term
two_of op e f = two op (term_of e) (term_of f)

abbrev pub choice_of : Expr → Expr → Expr → Term
choice_of c e f = choice (term_of c) (term_of e) (term_of f)

-- ---- statements and methods

-- the statements of an IF
abbrev pub if_of : Expr → List Stmt → List Stmt → Body
if_of t ys ns = branch (term_of t) (body_of ys) (body_of ns) done

abbrev pub methods_in : PlanText → List Routine
methods_in p = (flowchart_of p).methods
