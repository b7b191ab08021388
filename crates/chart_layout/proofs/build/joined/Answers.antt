use Rattle.std.proofs.Common.{None, refl, sym, ap, ◌∙◌}
use Rattle.chart_layout.specs.private.Drawn.{figures_statements}
use Rattle.chart_layout.proofs.DrawnLemmas.{arm_roll, choice_alone, if_ok}
use Rattle.chart_layout.specs.declared.choice.Arm.{roll-Arm}
use Rattle.chart_layout.specs.private.Trees.{figures_tree}
use Rattle.chart_layout.proofs.TreeLemmas.{arm_tree_roll, tree_alone}
use Rattle.chart_layout.proofs.build.joined.Goals as goal

pub returns-in-Some-Choice-clause-statements : goal.returns-in-Some-Choice-clause-statements
returns-in-Some-Choice-clause-statements c =
    if_ok c.cascade.result (λ whole is. is
    ∙ choice_alone c.args.test c.args.then _ c.args.otherwise.items c.pop.new.self.items c.in-Some-Choice.field-0 c.in-Some-Choice.choice
    (arm_roll (record { note = None; test = c.args.test; then = c.args.then }))
    c.in-Some-Choice.ensures.items c.in-Some-Choice.field-0-is
    (ap figures_statements (sym c.deref.ensures.value) ∙ c.if-are_comments.ensures.statements refl))
    c.cascade.ensures.statements

pub returns-in-Some-Choice-clause-tree : goal.returns-in-Some-Choice-clause-tree
returns-in-Some-Choice-clause-tree c =
    if_ok c.cascade.result (λ whole is. is
    ∙ tree_alone (roll-Arm (record { note = None; test = c.args.test; then = c.args.then })) c.args.otherwise.items c.pop.new.self.items
    c.in-Some-Choice.field-0 c.in-Some-Choice.choice c.in-Some-Choice.ensures.items c.in-Some-Choice.field-0-is
    (ap figures_tree (sym c.deref.ensures.value) ∙ c.if-are_comments.ensures.tree refl)
    ∙ arm_tree_roll (record { note = None; test = c.args.test; then = c.args.then }) (figures_tree c.args.otherwise.items))
    c.cascade.ensures.tree
