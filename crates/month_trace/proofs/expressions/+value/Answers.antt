use Rattle.std.proofs.Common.{sym, ◌∙◌, arith}
use Rattle.pap_tree.specs.Shapes.{one_meant, two_meant}
use Rattle.pap_tree.specs.Term.{term_of}
use Rattle.month_trace.proofs.ExpressionLemmas.{can_right, can_one, can_two, can_first, can_second}
use Rattle.month_trace.proofs.expressions.+value.Goals as goal

pub value_of_one-one_value-requires : goal.value_of_one-one_value-requires
value_of_one-one_value-requires t c =
    can_one c.args.plan.now c.args.values.now (one_meant c.args.op) (term_of c.args.operand.now) c.requires
    c.value_of-a.result c.value_of-a.ensures

pub value_of_two-value_of-b-requires : goal.value_of_two-value_of-b-requires
value_of_two-value_of-b-requires t c = (
  omega (arith, c.decreases),
  can_right c.args.plan.now c.args.values.now (two_meant c.args.op)
      (term_of c.args.left.now) (term_of c.args.right.now) c.requires c.value_of-a.result c.value_of-a.ensures
      (sym c.goes_right.ensures ∙ c.if-not-goes_right.false),
)

pub value_of_two-two_value-requires : goal.value_of_two-two_value-requires
value_of_two-two_value-requires t c =
    can_two c.args.plan.now c.args.values.now (two_meant c.args.op) (term_of c.args.left.now) (term_of c.args.right.now)
    c.requires c.value_of-a.result c.value_of-a.ensures c.value_of-b.result
    (sym c.goes_right.ensures ∙ c.if-not-goes_right.false) c.value_of-b.ensures

pub value_of_choice-value_of-requires : goal.value_of_choice-value_of-requires
value_of_choice-value_of-requires t c = (
  omega (arith, c.decreases),
  can_second c.args.plan.now c.args.values.now (term_of c.args.test.now)
      (term_of c.args.first.now) (term_of c.args.second.now) c.requires c.value_of-holds.result
      c.value_of-holds.ensures (sym c.is_zero.ensures ∙ c.if-is_zero.true),
)

pub value_of_choice-value_of-requires-else-is_zero : goal.value_of_choice-value_of-requires-else-is_zero
value_of_choice-value_of-requires-else-is_zero t c = (
  omega (arith, c.decreases),
  can_first c.args.plan.now c.args.values.now (term_of c.args.test.now)
      (term_of c.args.first.now) (term_of c.args.second.now) c.requires c.value_of-holds.result
      c.value_of-holds.ensures (sym c.is_zero.ensures ∙ c.if-is_zero.false),
)
