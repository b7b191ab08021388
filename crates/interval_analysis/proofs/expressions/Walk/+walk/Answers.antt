use Rattle.std.proofs.Common.{◌≡◌, ◌∙◌, ◌+◌, Ok, sym, ap, subst, arith, rules, to_z, of_z}
use Rattle.std.proofs.lemmas.Int.{ints}
use Rattle.std.specs.Int.{w32}
use Rattle.pap_tree.specs.Numbering.{nodes}
use Rattle.pap_tree.specs.Term.{term_of, item, one, two, operator}
use Rattle.pap_types.specs.Kinds.{kind_of_two}
use Rattle.pap_types.specs.private.ScopeViews.{scope_in}
use Rattle.interval_analysis.specs.private.PlanViews.{ranges_after, branches_in}
use Rattle.pap_tree.specs.Shapes.{one_meant, two_meant}
use Rattle.interval_analysis.specs.private.ShapeViews.{TakesTwo}
use Rattle.interval_analysis.specs.private.ExpressionViews.{CanWalk, IsPartRanged, RangeAnswer, StopsAs, TwoAnswer, part_ranged}
use Rattle.interval_analysis.specs.private.TestViews.{ComparesAs, TestAnswer, comparison, comparison_of, order_compared}
use Rattle.interval_analysis.specs.private.Connectives.{FollowAnswer, IsFollowedBy, connected, directions_of}
use Rattle.interval_analysis.specs.private.Notes.{IsTold}
use Rattle.interval_analysis.proofs.NodeLemmas.{can_item, can_one, can_two, first_stops, item_answer, item_stops, one_answer, one_stops, parts_answer, parts_err, range_err, second_stops, two_answer, two_stops}
use Rattle.interval_analysis.proofs.ExpressionLemmas.{plain_answer, comparison_stops}
use Rattle.interval_analysis.proofs.ConnectiveLemmas.{both_followed, comparison_followed, operator_followed, sequence_tested}
use Rattle.interval_analysis.proofs.NoteLemmas.{noted_then, notes_before, since}
use Rattle.interval_analysis.proofs.VariableLemmas.{goes_apply, goes_left, goes_noted, goes_then, held_left}
use Rattle.interval_analysis.proofs.ComparisonLemmas.{compared_err, have_shapes, order_answer, order_stops, sides_answer, takes_index, takes_operand, takes_operands}
use Rattle.interval_analysis.proofs.expressions.Walk.+walk.Goals as goal

-- ---- an expression by its shape

pub range_of-range_of-requires : goal.range_of-range_of-requires
range_of-range_of-requires t c =
    let is = c.in-Item.ensures in
    let count = ap nodes is in
    (omega (arith, count, c.decreases), (can_item c.args.self.now c.args.at c.in-Item.name.now (term_of c.in-Item.index.now) (subst (λ t. CanWalk c.args.self.now t c.args.at) is c.requires.walk), c.requires.held))

pub range_of-range_of-requires-in-One : goal.range_of-range_of-requires-in-One
range_of-range_of-requires-in-One t c =
    let is = c.in-One.ensures in
    let count = ap nodes is in
    (omega (arith, count, c.decreases), (can_one c.args.self.now c.args.at (one_meant c.in-One.op) (term_of c.in-One.operand.now) (subst (λ t. CanWalk c.args.self.now t c.args.at) is c.requires.walk), c.requires.held))

pub range_of-operands-requires : goal.range_of-operands-requires
range_of-operands-requires t c =
    let is = c.in-Two.ensures in
    let count = ap nodes is in
    (omega (arith, count, c.decreases), (can_two c.args.self.now c.args.at (two_meant c.in-Two.op) (term_of c.in-Two.left.now) (term_of c.in-Two.right.now) (subst (λ t. CanWalk c.args.self.now t c.args.at) is c.requires.walk), c.requires.held))

pub range_of-item-requires-clause-whole : goal.range_of-item-requires-clause-whole
range_of-item-requires-clause-whole t c =
    takes_index c.args.self.now c.args.at c.args.variables.now.ranges.items c.in-Item.name.now (term_of c.in-Item.index.now) c.in_ok-chosen-in-Item.chosen
    (subst (λ t. CanWalk c.args.self.now t c.args.at) c.in-Item.ensures c.requires.walk) c.in_ok-chosen-in-Item.ensures.answer

pub range_of-one-requires-clause-takes : goal.range_of-one-requires-clause-takes
range_of-one-requires-clause-takes t c =
    takes_operand c.args.self.now c.args.at c.args.variables.now.ranges.items c.in-One.op (term_of c.in-One.operand.now) c.in_ok-a-in-One.a
    (subst (λ t. CanWalk c.args.self.now t c.args.at) c.in-One.ensures c.requires.walk) c.in_ok-a-in-One.ensures.answer

pub range_of-two-requires-clause-takes : goal.range_of-two-requires-clause-takes
range_of-two-requires-clause-takes t c =
    let w = c.args.self.now in
    let f = term_of c.in-Two.right.now in
    let o = c.in_ok-operands-in-Two.operands in
    let kind = kind_of_two (two_meant c.in-Two.op) o.first.kind o.second.kind in
    subst (λ p. TakesTwo (scope_in p) c.in-Two.op kind f o.first.range o.second.range) (sym c.typed.ensures)
    (takes_operands w c.args.at c.args.variables.now.ranges.items c.in-Two.op (term_of c.in-Two.left.now) f o
    (subst (λ t. CanWalk w t c.args.at) c.in-Two.ensures c.requires.walk) c.in_ok-operands-in-Two.ensures.answer)

pub range_of-returns-in_ok-chosen-in-Item-clause-answer : goal.range_of-returns-in_ok-chosen-in-Item-clause-answer
range_of-returns-in_ok-chosen-in-Item-clause-answer t c =
    let w = c.args.self.now in
    let rs = c.args.variables.now.ranges.items in
    subst (λ t. RangeAnswer w t c.args.at rs c.item.result) (sym c.in-Item.ensures)
    (item_answer w c.args.at rs c.in-Item.name.now (term_of c.in-Item.index.now) c.table.result.now c.in_ok-chosen-in-Item.chosen c.item.result c.table.ensures c.in_ok-chosen-in-Item.ensures.answer c.item.ensures)

pub range_of-returns-in_ok-a-in-One-clause-answer : goal.range_of-returns-in_ok-a-in-One-clause-answer
range_of-returns-in_ok-a-in-One-clause-answer t c =
    let w = c.args.self.now in
    let rs = c.args.variables.now.ranges.items in
    subst (λ t. RangeAnswer w t c.args.at rs c.one.result) (sym c.in-One.ensures)
    (one_answer w c.args.at rs (one_meant c.in-One.op) (term_of c.in-One.operand.now) c.in_ok-a-in-One.a c.one.result c.in_ok-a-in-One.ensures.answer c.one.ensures)

pub range_of-returns-in_ok-operands-in-Two-clause-answer : goal.range_of-returns-in_ok-operands-in-Two-clause-answer
range_of-returns-in_ok-operands-in-Two-clause-answer t c =
    let w = c.args.self.now in
    let rs = c.args.variables.now.ranges.items in
    let op = two_meant c.in-Two.op in
    let f = term_of c.in-Two.right.now in
    let o = c.in_ok-operands-in-Two.operands in
    let answer = subst (λ p. TwoAnswer (scope_in p) op f o c.two.result) c.typed.ensures c.two.ensures in
    subst (λ t. RangeAnswer w t c.args.at rs c.two.result) (sym c.in-Two.ensures)
    (two_answer w c.args.at rs op (term_of c.in-Two.left.now) f o c.two.result c.in_ok-operands-in-Two.ensures.answer answer)

pub range_of-returns-in_err-chosen-in-Item-clause-answer : goal.range_of-returns-in_err-chosen-in-Item-clause-answer
range_of-returns-in_err-chosen-in-Item-clause-answer t c =
    let w = c.args.self.now in
    let rs = c.args.variables.now.ranges.items in
    let stop = c.in_err-chosen-in-Item.field-0.0 in
    let x = c.in-Item.name.now in
    let e = term_of c.in-Item.index.now in
    subst (λ t. RangeAnswer w t c.args.at rs c.from_residual.result) (sym c.in-Item.ensures)
    (range_err w c.args.at rs (item x e) stop c.from_residual.result c.from_residual.ensures.1 (item_stops w c.args.at rs x e stop c.in_err-chosen-in-Item.ensures.answer))

pub range_of-returns-in_err-a-in-One-clause-answer : goal.range_of-returns-in_err-a-in-One-clause-answer
range_of-returns-in_err-a-in-One-clause-answer t c =
    let w = c.args.self.now in
    let rs = c.args.variables.now.ranges.items in
    let stop = c.in_err-a-in-One.field-0.0 in
    let op = one_meant c.in-One.op in
    let e = term_of c.in-One.operand.now in
    let res = c.from_residual-in_err-a-in-One.result in
    subst (λ t. RangeAnswer w t c.args.at rs res) (sym c.in-One.ensures)
    (range_err w c.args.at rs (one op e) stop res c.from_residual-in_err-a-in-One.ensures.1 (one_stops w c.args.at rs op e stop c.in_err-a-in-One.ensures.answer))

pub range_of-returns-in_err-operands-in-Two-clause-answer : goal.range_of-returns-in_err-operands-in-Two-clause-answer
range_of-returns-in_err-operands-in-Two-clause-answer t c =
    let w = c.args.self.now in
    let rs = c.args.variables.now.ranges.items in
    let stop = c.in_err-operands-in-Two.field-0.0 in
    let op = two_meant c.in-Two.op in
    let e = term_of c.in-Two.left.now in
    let f = term_of c.in-Two.right.now in
    let res = c.from_residual-in_err-operands-in-Two.result in
    subst (λ t. RangeAnswer w t c.args.at rs res) (sym c.in-Two.ensures)
    (range_err w c.args.at rs (two op e f) stop res c.from_residual-in_err-operands-in-Two.ensures.1 (two_stops w c.args.at rs op e f stop c.in_err-operands-in-Two.ensures.answer))

-- ---- the parts of a conditional

pub range_of_parts-returns-in_err-one-clause-answer : goal.range_of_parts-returns-in_err-one-clause-answer
range_of_parts-returns-in_err-one-clause-answer t c =
    let w = c.args.self.now in
    let br = branches_in w.plan.now c.args.variables.now.ranges.items c.args.branches.now in
    let stop = c.in_err-one.field-0.0 in
    parts_err w (term_of c.args.first.now) (term_of c.args.second.now) c.args.at br stop c.from_residual.result c.from_residual.ensures.1
    (first_stops w (term_of c.args.first.now) (term_of c.args.second.now) c.args.at br stop c.in_err-one.ensures.answer)

pub range_of_parts-returns-in_err-other-clause-answer : goal.range_of_parts-returns-in_err-other-clause-answer
range_of_parts-returns-in_err-other-clause-answer t c =
    let w = c.args.self.now in
    let p = w.plan.now in
    let u = term_of c.args.second.now in
    let br = branches_in p c.args.variables.now.ranges.items c.args.branches.now in
    let one = c.in_ok-one.one in
    let stop = c.in_err-other.field-0.0 in
    let h = subst (λ rs. StopsAs (part_ranged w u one.next (ranges_after p rs c.args.branches.now.fails)) stop) c.in_ok-one.ensures.left.ranges c.in_err-other.ensures.answer in
    parts_err w (term_of c.args.first.now) u c.args.at br stop c.from_residual-in_err-other.result c.from_residual-in_err-other.ensures.1
    (second_stops w (term_of c.args.first.now) u c.args.at br one c.in_ok-one.ensures.answer stop h)

pub range_of_parts-returns-clause-answer : goal.range_of_parts-returns-clause-answer
range_of_parts-returns-clause-answer t c =
    let w = c.args.self.now in
    let p = w.plan.now in
    let u = term_of c.args.second.now in
    let br = branches_in p c.args.variables.now.ranges.items c.args.branches.now in
    let one = c.in_ok-one.one in
    let other = c.in_ok-other.other in
    let second = subst (λ rs. IsPartRanged w u one.next (ranges_after p rs c.args.branches.now.fails) other) c.in_ok-one.ensures.left.ranges c.in_ok-other.ensures.answer in
    parts_answer w (term_of c.args.first.now) u c.args.at br one c.in_ok-one.ensures.answer other c.either.result second c.either.ensures

-- ---- tests

pub test-returns-in-Binary-clause-answer : goal.test-returns-in-Binary-clause-answer
test-returns-in-Binary-clause-answer t c =
    let is : term_of c.args.e.now ≡ two (operator c.in-Binary.op) (term_of c.deref-in-Binary.result.now) (term_of c.deref-in-Binary-2.result.now) = search rules in
    subst (λ t. TestAnswer c.args.self.now t c.args.at c.args.variables.now.ranges.items c.test_operator.result) (sym is) c.test_operator.ensures.answer

pub compare-compare_sides-requires-clause-shapes : goal.compare-compare_sides-requires-clause-shapes
compare-compare_sides-requires-clause-shapes t c =
    let e = term_of c.args.left.now in
    let f = term_of c.args.right.now in
    have_shapes c.args.self.now e f c.args.at c.args.variables.now.ranges.items c.in_ok-operands-in-None.operands
    (can_two c.args.self.now c.args.at (operator c.args.op) e f c.requires.walk)
    c.in_ok-operands-in-None.ensures.answer

pub compare-returns-in_err-operands-in-Some-clause-answer : goal.compare-returns-in_err-operands-in-Some-clause-answer
compare-returns-in_err-operands-in-Some-clause-answer t c =
    let w = c.args.self.now in
    let e = term_of c.args.left.now in
    let f = term_of c.args.right.now in
    let rs = c.args.variables.now.ranges.items in
    let stop = c.in_err-operands-in-Some.field-0.0 in
    compared_err w (comparison c.args.op e f) c.args.at rs stop c.from_residual.result c.from_residual.ensures.1
    (order_stops w c.args.op e f c.in-Some.inner c.args.at rs stop c.in-Some.ensures c.in_err-operands-in-Some.ensures.answer)

pub compare-returns-in_err-operands-in-None-clause-answer : goal.compare-returns-in_err-operands-in-None-clause-answer
compare-returns-in_err-operands-in-None-clause-answer t c =
    let w = c.args.self.now in
    let e = term_of c.args.left.now in
    let f = term_of c.args.right.now in
    let rs = c.args.variables.now.ranges.items in
    let stop = c.in_err-operands-in-None.field-0.0 in
    compared_err w (comparison c.args.op e f) c.args.at rs stop c.from_residual-in_err-operands-in-None.result c.from_residual-in_err-operands-in-None.ensures.1
    (comparison_stops w c.args.op e f c.args.at rs stop c.in_err-operands-in-None.ensures.answer)

pub compare-returns-in_ok-operands-in-Some-clause-answer : goal.compare-returns-in_ok-operands-in-Some-clause-answer
compare-returns-in_ok-operands-in-Some-clause-answer t c =
    let i = c.in-Some.inner in
    let o = c.in_ok-operands-in-Some.operands in
    let number : to_z w32 (of_z w32 i.number) ≡ i.number = omega (arith, ints) in
    let compares = subst (λ k. ComparesAs (order_compared c.args.op k o) (o.second.next + 3) o c.compare_order.result) number c.compare_order.ensures in
    order_answer c.args.self.now c.args.op (term_of c.args.left.now) (term_of c.args.right.now) i c.args.at c.args.variables.now.ranges.items o c.compare_order.result
    c.requires.held.sized c.in-Some.ensures c.in_ok-operands-in-Some.ensures.answer compares

pub compare-returns-in_ok-operands-in-None-clause-answer : goal.compare-returns-in_ok-operands-in-None-clause-answer
compare-returns-in_ok-operands-in-None-clause-answer t c =
    sides_answer c.args.self.now c.args.op (term_of c.args.left.now) (term_of c.args.right.now) c.args.at c.args.variables.now.ranges.items c.in_ok-operands-in-None.operands c.in_ok-operands-in-None.ensures.answer c.compare_sides.result
    c.requires.held.sized c.in-None.ensures c.compare_sides.ensures

-- ---- a comparison as a part of a connective

pub follow-returns-in-Compared-clause-answer : goal.follow-returns-in-Compared-clause-answer
follow-returns-in-Compared-clause-answer t c =
    operator_followed c.args.self.now c.args.connective (term_of c.args.e.now) c.in-Compared.found c.args.at c.args.variables.now.ranges.items c.follow_comparison.new.variables.ranges.items c.follow_comparison.result
    c.in-Compared.ensures c.follow_comparison.ensures.answer

pub follow_comparison-returns-clause-answer : goal.follow_comparison-returns-clause-answer
follow_comparison-returns-clause-answer t c =
    let d = c.in_ok-compared.compared in
    let f = c.in_ok-followed.followed in
    let now = c.follow_compared.new.variables.ranges.items in
    comparison_followed c.args.self.now c.args.connective (comparison_of c.args.op c.args.left.now c.args.right.now) c.args.at c.args.variables.now.ranges.items now d f c.in_ok-compared.ensures.answer
    (subst (λ rs. IsFollowedBy (directions_of c.args.connective d.allowed) d rs now f) c.in_ok-compared.ensures.left.ranges c.in_ok-followed.ensures.follows)

pub follow_comparison-returns-clause-on : goal.follow_comparison-returns-clause-on
follow_comparison-returns-clause-on t c =
    let p = c.args.self.now.plan.now in
    let mid = c.compare.new.variables in
    let on = c.in_ok-compared.ensures.on in
    goes_then p c.args.variables.now mid c.follow_compared.new.variables on
    (goes_noted p mid c.follow_compared.new.variables on.held c.in_ok-followed.ensures.noted c.in_ok-followed.ensures.kept)

pub follow_comparison-returns-in_err-followed-clause-on : goal.follow_comparison-returns-in_err-followed-clause-on
follow_comparison-returns-in_err-followed-clause-on t c =
    let p = c.args.self.now.plan.now in
    let mid = c.compare.new.variables in
    let on = c.in_ok-compared.ensures.on in
    goes_then p c.args.variables.now mid c.follow_compared.new.variables on
    (goes_noted p mid c.follow_compared.new.variables on.held c.in_err-followed.ensures.noted c.in_err-followed.ensures.kept)

pub test_operator-returns-in_default : goal.test_operator-returns-in_default
test_operator-returns-in_default t c = record {
  answer = plain_answer c.args.self.now c.args.op (term_of c.args.left.now) (term_of c.args.right.now) c.args.at c.args.variables.now.ranges.items c.test_comparison.result c.in_default.not-And c.in_default.not-Or c.test_comparison.ensures.answer;
  left = c.test_comparison.ensures.left;
  on = c.test_comparison.ensures.on;
}

pub range_where-range_of-requires : goal.range_where-range_of-requires
range_where-range_of-requires t c =
    (omega (arith, c.decreases), (c.requires.walk, (goes_apply c.args.self.now.plan.now c.args.variables.now c.apply.new.self c.deref.result.now c.requires.held c.in_ok-apply.ensures.value c.in_ok-apply.ensures.noted c.in_ok-apply.ensures.kept).held))

pub follow_part-returns-clause-on : goal.follow_part-returns-clause-on
follow_part-returns-clause-on t c =
    let p = c.args.self.now.plan.now in
    let was = c.args.variables.now in
    let same = c.in_ok-branches.ensures.left in
    goes_then p was c.test.new.variables c.apply.new.self
    (goes_left p was c.test.new.variables same c.requires.held)
    (goes_apply p c.test.new.variables c.apply.new.self c.deref.result.now (held_left p was c.test.new.variables same c.requires.held) c.in_ok-apply-in-Some.ensures.value c.in_ok-apply-in-Some.ensures.noted c.in_ok-apply-in-Some.ensures.kept)

pub follow_both-returns-clause-on : goal.follow_both-returns-clause-on
follow_both-returns-clause-on t c =
    goes_then c.args.self.now.plan.now c.args.variables.now c.follow.new.variables c.follow_behind.new.variables c.in_ok-first.ensures.on c.in_ok-second.ensures.on

pub follow_both-returns-clause-answer : goal.follow_both-returns-clause-answer
follow_both-returns-clause-answer t c =
    let w = c.args.self.now in
    let new = c.follow_behind.new.variables.ranges.items in
    subst (λ f. FollowAnswer w c.args.connective (connected c.args.connective c.args.left.now c.args.right.now) c.args.at c.args.variables.now.ranges.items new (Ok f)) (sym c.behind_both.ensures)
    (both_followed w c.args.connective c.args.left.now c.args.right.now c.args.at c.args.variables.now.ranges.items c.follow.new.variables.ranges.items c.in_ok-first.first c.in_ok-first.ensures.answer new c.in_ok-second.second c.in_ok-second.ensures.answer)

pub test_sequence-returns-clause-answer : goal.test_sequence-returns-clause-answer
test_sequence-returns-clause-answer t c =
    let was = c.args.variables.now in
    let mid = c.follow_both.new.variables in
    let cs = c.in_ok-changes.changes in
    let back = since was mid c.len-mark.result (c.len-mark.ensures ∙ was.notes.ok.0) c.in_ok-followed.ensures.on.noted in
    let told = subst (λ rs. IsTold rs mid.ranges.items cs.items) back c.in_ok-changes.ensures.told in
    sequence_tested c.args.self.now c.args.connective c.args.left.now c.args.right.now c.args.at was.ranges.items mid.ranges.items c.in_ok-followed.followed cs c.then_some.result c.unchanged_if.result c.turned.result
    c.in_ok-followed.ensures.answer told.whole c.then_some.ensures c.unchanged_if.ensures c.turned.ensures

-- ---- what is noted, on errors too

pub follow_both-returns-in_err-second-clause-on : goal.follow_both-returns-in_err-second-clause-on
follow_both-returns-in_err-second-clause-on t c =
    goes_then c.args.self.now.plan.now c.args.variables.now c.follow.new.variables c.follow_behind.new.variables c.in_ok-first.ensures.on c.in_err-second.ensures.on

pub follow_part-returns-in_err-apply-in-Some-clause-on : goal.follow_part-returns-in_err-apply-in-Some-clause-on
follow_part-returns-in_err-apply-in-Some-clause-on t c =
    let p = c.args.self.now.plan.now in
    let was = c.args.variables.now in
    let mid = c.test.new.variables in
    let same = c.in_ok-branches.ensures.left in
    goes_then p was mid c.apply.new.self
    (goes_left p was mid same c.requires.held)
    (goes_noted p mid c.apply.new.self (held_left p was mid same c.requires.held) c.in_err-apply-in-Some.ensures.noted c.in_err-apply-in-Some.ensures.kept)

pub range_where-returns-in_err-apply-clause-on : goal.range_where-returns-in_err-apply-clause-on
range_where-returns-in_err-apply-clause-on t c =
    goes_noted c.args.self.now.plan.now c.args.variables.now c.apply.new.self c.requires.held c.in_err-apply.ensures.noted c.in_err-apply.ensures.kept

pub range_where-returns-in_err-ranged-clause-on : goal.range_where-returns-in_err-ranged-clause-on
range_where-returns-in_err-ranged-clause-on t c =
    let p = c.args.self.now.plan.now in
    goes_then p c.args.variables.now c.apply.new.self c.range_of.new.variables
    (goes_noted p c.args.variables.now c.apply.new.self c.requires.held c.in_ok-apply.ensures.noted c.in_ok-apply.ensures.kept)
    c.in_err-ranged.ensures.on

pub range_where-returns-clause-on : goal.range_where-returns-clause-on
range_where-returns-clause-on t c =
    let was = c.args.variables.now in
    let now = c.range_of.new.variables in
    let mark = c.len-mark.ensures ∙ was.notes.ok.0 in
    let noted = noted_then was c.apply.new.self now c.in_ok-apply.ensures.noted c.in_ok-ranged.ensures.on.noted in
    goes_left c.args.self.now.plan.now was c.take_back.new.self (record {
      ranges = c.take_back.ensures.ranges ∙ since was now c.len-mark.result mark noted;
      notes = c.take_back.ensures.notes ∙ notes_before was now c.len-mark.result mark noted;
    }) c.requires.held

pub test_sequence-returns-in_err-changes-clause-on : goal.test_sequence-returns-in_err-changes-clause-on
test_sequence-returns-in_err-changes-clause-on t c =
    let p = c.args.self.now.plan.now in
    let on = c.in_ok-followed.ensures.on in
    goes_then p c.args.variables.now c.follow_both.new.variables c.taken_back.new.variables on (goes_left p c.follow_both.new.variables c.taken_back.new.variables c.in_err-changes.ensures.left on.held)

pub test_sequence-returns-clause-on : goal.test_sequence-returns-clause-on
test_sequence-returns-clause-on t c =
    let was = c.args.variables.now in
    let mid = c.follow_both.new.variables in
    let mark = c.len-mark.ensures ∙ was.notes.ok.0 in
    let noted = c.in_ok-followed.ensures.on.noted in
    goes_left c.args.self.now.plan.now was c.taken_back.new.variables (record {
      ranges = c.in_ok-changes.ensures.ranges ∙ since was mid c.len-mark.result mark noted;
      notes = c.in_ok-changes.ensures.notes ∙ notes_before was mid c.len-mark.result mark noted;
    }) c.requires.held
