use Rattle.std.proofs.Common.{sym, ◌∙◌}
use Rattle.pap_tree.specs.Term.{term_of}
use Rattle.pap_tree.specs.Shapes.{two_meant}
use Rattle.checked_run.proofs.AnswerLemmas.{two_answer}
use Rattle.run_values.proofs.Laws.{plain_two}
use Rattle.checked_run.proofs.expressions.+evaluate.Goals as goal

pub evaluate_two-two_value-requires-clause-plain : goal.evaluate_two-two_value-requires-clause-plain
evaluate_two-two_value-requires-clause-plain t c =
    plain_two c.args.plan.now c.args.values.now (two_meant c.args.op) (term_of c.args.left.now)
    (term_of c.args.right.now) c.in_ok-b.b.value c.requires.values c.requires.typed c.in_ok-b.ensures.to.is

pub evaluate_two-returns : goal.evaluate_two-returns
evaluate_two-returns t c =
    two_answer c.args.plan.now c.args.at c.args.values.now (two_meant c.args.op) (term_of c.args.left.now)
    (term_of c.args.right.now) c.in_ok-a.a c.in_ok-b.b c.kind_of_two-kind.result c.two_value.result c.own.result
    c.in_ok-a.ensures (sym c.goes_right.ensures ∙ c.if-not-goes_right.false) c.in_ok-b.ensures c.kind_of_two-kind.ensures
    c.two_value.ensures c.own.ensures
