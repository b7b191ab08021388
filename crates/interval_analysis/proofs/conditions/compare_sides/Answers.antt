use Rattle.std.proofs.Common.{[], ◌∷◌, ◌∙◌, ◌&&◌, Ok, pos, sym, ap, ap₂, subst}
use Rattle.pap_types.specs.Kinds.{is_whole}
use Rattle.interval_walk.specs.Branches.{signs_where}
use Rattle.interval_walk.specs.Failures.{and_then, at_node}
use Rattle.interval_walk.proofs.Laws.{passed_node, compared_aligned}
use Rattle.interval_analysis.specs.private.ComparisonViews.{CanRefine, branches_by, sides_of}
use Rattle.interval_analysis.proofs.ComparisonLemmas.{left_whole, right_whole}
use Rattle.interval_analysis.proofs.conditions.compare_sides.Goals as goal

pub returns : goal.returns
returns c =
    let o = c.args.operands in
    let op = c.args.op in
    let a = o.first.range in
    let b = o.second.range in
    let r = c.in_ok-compared.compared.range in
    let whole = c.are_whole-whole.result in
    let node = ap (at_node o.second.next (a ∷ b ∷ [])) (sym c.comparison_range-compared.ensures) ∙ c.in_ok-compared.ensures.range in
    let row = sym c.comparison_range-compared.ensures ∙ passed_node o.second.next _ c.comparison_range-compared.result r c.in_ok-compared.ensures.range in
    record {
      branches = λ rs.
          ap (λ q. and_then q (λ _. Ok (branches_by (sides_of o (is_whole o.first.kind && is_whole o.second.kind)) (signs_where op (pos 0)) rs))) node
          ∙ ap₂ (λ x s. Ok (branches_by (sides_of o x) s rs)) (sym c.are_whole-whole.ensures) (sym c.signs_where.ensures)
          ∙ ap (λ s. Ok (branches_by s c.signs_where.result rs)) (sym c.of.ensures);
      sides = c.of.ensures ∙ ap (λ s. sides_of o s.whole) (sym c.of.ensures);
      refines = subst (λ s. CanRefine s.whole a b) (sym c.of.ensures) (record {
        aligned = compared_aligned op a b r row;
        left_whole = left_whole o.first.kind o.second.kind a whole c.are_whole-whole.ensures c.requires.shapes.left;
        right_whole = right_whole o.first.kind o.second.kind b whole c.are_whole-whole.ensures c.requires.shapes.right;
      });
      next = c.in_ok-compared.ensures.next;
    }
