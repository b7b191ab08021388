use Rattle.std.proofs.Common.{◌≡◌, ◌≤◌, ◌<◌, ◌-◌, ◌+◌, [], ◌∷◌, ◌++◌, map, length, take, refl, sym, ap, subst, ◌∙◌, append_assoc, arith}
use Rattle.std.proofs.lemmas.List.{take_all}
use Rattle.chart_layout.specs.declared.choice.Arm.{out-Arm}
use Rattle.chart_layout.specs.declared.choice.Choice.{out-Choice}
use Rattle.chart_layout.specs.declared.drawing.Word.TheVariants.{Yes, No}
use Rattle.chart_layout.specs.Drawn.{drawing_rows, joined_back}
use Rattle.chart_layout.specs.Trees.{fork, stop, shown_tree}
use Rattle.chart_layout.specs.Leads.{at_way, leaving, lines, ways_of}
use Rattle.chart_layout.specs.private.Drawn.{arm_statements, figure_statements}
use Rattle.chart_layout.specs.private.Trees.{behind_arms, choice_tree, figure_tree}
use Rattle.chart_layout.specs.private.Leads.{statements_in, ways_in, end_behind, Leaves}
use Rattle.chart_layout.proofs.DrawnLemmas.{arms_step, if_ok}
use Rattle.chart_layout.proofs.TreeLemmas.{choice_first, arm_next}
use Rattle.chart_layout.proofs.LeadLemmas.{arm_lines, arm_leaves, arm_ways, lines_next, ways_next, leaves_next, statements_next, branch_leaves}
use Rattle.chart_layout.proofs.pen.Pen.+draw.Goals as goal

pub arms-loop-left-init : goal.arms-loop-left-init
arms-loop-left-init t c =
    let choice = c.args.choice.now in
    let later = (out-Choice choice).later.items in
    let first = (out-Choice choice).first in
    let n = (out-Arm first).test.number in
    let inside = shown_tree (out-Arm first).then in
    let rest = behind_arms choice c.len-left.result in
    let all : length later ≤ c.len-left.result = omega (arith, (out-Choice choice).later.ok.0, c.len-left.ensures) in
    let whole : fork n inside rest stop ≡ choice_tree choice = choice_first choice c.len-left.result all in (
      omega (arith, (out-Choice choice).later.ok.0, c.len-left.ensures),
      ap (λ l. l ++ joined_back (map arm_statements (take c.len-left.result later))) c.in_ok-spot.ensures.statements
          ∙ append_assoc (statements_in (drawing_rows c.args.self.now.parts.items)) (arm_statements first) _
          ∙ ap (λ l. statements_in (drawing_rows c.args.self.now.parts.items) ++ (arm_statements first ++ joined_back (map arm_statements l)))
          (take_all c.len-left.result later all),
      arm_ways n inside rest _ _ _ c.in_ok-spot.ensures.ways (ap (λ x. ways_in (drawing_rows c.args.self.now.parts.items) ++ ways_of x) whole),
      arm_lines c.is_end.result n inside rest c.args.spot.exits.items c.in_ok-spot.spot.exits.items c.args.rail.now.exits.items
          c.arm.new.rail.exits.items _ _ _ c.is_end.ensures c.in_ok-spot.ensures.leaves c.in_ok-spot.ensures.leads
          (ap (λ x. c.args.self.now.leads.items ++ lines c.args.spot.exits.items x) whole),
      arm_leaves c.is_end.result n inside rest c.args.spot.exits.items c.in_ok-spot.spot.exits.items c.args.rail.now.exits.items
          c.arm.new.rail.exits.items _ c.is_end.ensures c.in_ok-spot.ensures.leaves
          (ap (λ x. c.args.rail.now.exits.items ++ leaving c.args.spot.exits.items x) whole),
    )

pub arms-loop-left-preserved : goal.arms-loop-left-preserved
arms-loop-left-preserved t c =
    let choice = c.args.choice.now in
    let later = (out-Choice choice).later.items in
    let left = c.loop-left.left in
    let arm = c.index.result.now in
    let n = (out-Arm arm).test.number in
    let inside = shown_tree (out-Arm arm).then in
    let rest = behind_arms choice (left - 1) in
    let now = c.loop-left.self in
    let exits = c.loop-left.spot.exits.items in
    let whole : fork n inside rest stop ≡ behind_arms choice left =
    arm_next choice left (left - 1) arm (omega (arith, c.loop-left-test.true)) (omega (arith, c.loop-left-test.true, c.loop-left.invariant.0))
    (sym c.index.ensures) in (
      omega (arith, c.loop-left.invariant.0),
      arms_step arm_statements later left (left - 1) arm _ _ _
          (omega (arith, c.loop-left-test.true)) (omega (arith, c.loop-left-test.true, c.loop-left.invariant.0))
          (sym c.index.ensures) c.in_ok-spot-2.ensures.statements c.loop-left.invariant.1,
      arm_ways n inside rest _ _ _ c.in_ok-spot-2.ensures.ways
          (ap (λ x. ways_in (drawing_rows now.parts.items) ++ ways_of x) whole ∙ c.loop-left.invariant.2),
      arm_lines c.is_end-in-loop-left.result n inside rest exits c.in_ok-spot-2.spot.exits.items c.loop-left.rail.exits.items
          c.arm-in-loop-left.new.rail.exits.items _ _ _ c.is_end-in-loop-left.ensures c.in_ok-spot-2.ensures.leaves c.in_ok-spot-2.ensures.leads
          (ap (λ x. now.leads.items ++ lines exits x) whole ∙ c.loop-left.invariant.3),
      arm_leaves c.is_end-in-loop-left.result n inside rest exits c.in_ok-spot-2.spot.exits.items c.loop-left.rail.exits.items
          c.arm-in-loop-left.new.rail.exits.items _ c.is_end-in-loop-left.ensures c.in_ok-spot-2.ensures.leaves
          (ap (λ x. c.loop-left.rail.exits.items ++ leaving exits x) whole ∙ c.loop-left.invariant.4),
    )

pub body-loop-i-preserved : goal.body-loop-i-preserved
body-loop-i-preserved t c =
    let figures = c.deref-figure-items.result.now in
    let i = c.loop-i.i in
    let figure = c.figure-item.result in
    let exits = c.loop-i.spot.exits.items in
    let some : i < length figures = omega (arith, c.loop-i-test.true) in
    let counted : c.len-count.result ≡ length figures = omega arith in
    let end : c.at.result ≡ end_behind (i + 1) (length figures) c.args.end =
    c.at.ensures ∙ ap (λ k. end_behind (i + 1) k c.args.end) counted in
    let leaves : Leaves (end_behind (i + 1) (length figures) c.args.end) c.loop-i.rail.exits.items c.figure.new.rail.exits.items
    c.in_ok-spot.spot.exits.items (leaving exits (figure_tree figure)) =
    subst (λ e. Leaves e c.loop-i.rail.exits.items c.figure.new.rail.exits.items c.in_ok-spot.spot.exits.items (leaving exits (figure_tree figure))) end
    c.in_ok-spot.ensures.leaves in (
      statements_next figure_statements figures i figure _ _ _ some c.figure-item.is c.in_ok-spot.ensures.statements c.loop-i.invariant.0,
      ways_next figure_tree figures i figure _ _ _ some c.figure-item.is c.in_ok-spot.ensures.ways c.loop-i.invariant.1,
      lines_next figure_tree figures i (length figures) figure c.args.end c.loop-i.self.leads.items c.figure.new.self.leads.items _
          c.loop-i.rail.exits.items c.figure.new.rail.exits.items exits c.in_ok-spot.spot.exits.items some refl c.figure-item.is
          c.in_ok-spot.ensures.leads leaves c.loop-i.invariant.2,
      leaves_next figure_tree figures i (length figures) figure c.args.end c.args.rail.now.exits.items c.loop-i.rail.exits.items
          c.figure.new.rail.exits.items exits c.in_ok-spot.spot.exits.items _ some refl c.figure-item.is
          leaves
          c.loop-i.invariant.3,
    )

pub to_rail-returns-clause-leaves : goal.to_rail-returns-clause-leaves
to_rail-returns-clause-leaves t c =
    if_ok c.leave_branch.result (λ s leaves.
    branch_leaves c.args.is_closing c.args.rail.now.exits.items c.branch-self.new.rail.exits.items c.leave_branch.new.rail.exits.items s.exits.items
    c.in_ok-end.end.exits.items (leaving (at_way c.args.fork.test Yes ∷ []) (shown_tree c.args.branch.now)) (at_way c.args.fork.test No ∷ [])
    c.in_ok-end.ensures.leaves leaves)
    c.leave_branch.ensures.leaves
