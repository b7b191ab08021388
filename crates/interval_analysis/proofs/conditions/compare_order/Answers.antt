use Rattle.std.proofs.Common.{◌≡◌, ◌+◌, ◌∙◌, Ok, false, sym, ap, subst}
use Rattle.std.specs.Int.{w32}
use Rattle.std.proofs.lemmas.Int.{to_z-of_z}
use Rattle.interval_walk.specs.Branches.{signs_where}
use Rattle.interval_walk.specs.Failures.{and_then}
use Rattle.interval_analysis.specs.private.ComparisonViews.{CanRefine, branches_by, sides_of}
use Rattle.interval_analysis.specs.private.TestViews.{order_node, order_compared}
use Rattle.interval_analysis.specs.private.ExpressionViews.{StopsAs}
use Rattle.interval_analysis.proofs.NodeLemmas.{stops_first}
use Rattle.interval_analysis.proofs.ComparisonLemmas.{order_aligned, compares_err}
use Rattle.interval_analysis.proofs.conditions.compare_order.Goals as goal

pub returns : goal.returns
returns c =
    let o = c.args.operands in
    let op = c.args.op in
    let a = o.first.range in
    let b = o.second.range in
    let k = c.args.number in
    let passed = c.in_ok-next.ensures in
    let number = to_z-of_z w32 k c.ranges.number in
    let passes = subst (λ k. order_node op k a b o.second.next ≡ Ok passed.range) number passed.passes in
    let allowed = c.signs_where.ensures ∙ ap (signs_where op) number in
    record {
      branches = λ rs.
          ap (λ q. and_then q (λ _. Ok (branches_by (sides_of o false) (signs_where op k) rs))) passes
          ∙ ap (λ s. Ok (branches_by (sides_of o false) s rs)) (sym allowed)
          ∙ ap (λ s. Ok (branches_by s c.signs_where.result rs)) (sym c.of.ensures);
      sides = c.of.ensures ∙ ap (λ s. sides_of o s.whole) (sym c.of.ensures);
      refines = subst (λ s. CanRefine s.whole a b) (sym c.of.ensures) (record {
        aligned = order_aligned op k a b o.second.next passed.range passes;
        left_whole = tt;
        right_whole = tt;
      });
      next = passed.next;
    }

pub returns-in_err-next : goal.returns-in_err-next
returns-in_err-next c =
    let o = c.args.operands in
    let op = c.args.op in
    let k = c.args.number in
    let stop = c.in_err-next.field-0.0 in
    let number = to_z-of_z w32 k c.ranges.number in
    let node = order_node op k o.first.range o.second.range o.second.next in
    let h = subst (λ k. StopsAs (order_node op k o.first.range o.second.range o.second.next) stop) number c.in_err-next.ensures in
    compares_err (order_compared op k o) (o.second.next + 3) o stop c.from_residual.result c.from_residual.ensures.1
    (λ rs. stops_first node (λ _. Ok (branches_by (sides_of o false) (signs_where op k) rs)) stop h)
