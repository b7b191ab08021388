use Rattle.std.proofs.Common.{◌++◌, ◌∷◌, ap, ◌∙◌}
use Rattle.chart_layout.specs.Drawn.{drawn_statement}
use Rattle.chart_layout.specs.private.Drawn.{figures_statements}
use Rattle.chart_layout.proofs.DrawnLemmas.{one_figure, figure_choice}
use Rattle.chart_layout.specs.Trees.{fork, stop}
use Rattle.chart_layout.specs.private.Trees.{figures_tree}
use Rattle.chart_layout.proofs.TreeLemmas.{tree_pushed, tree_of_choice}
use Rattle.chart_layout.proofs.build.push_choice.Goals as goal

pub returns-clause-statements : goal.returns-clause-statements
returns-clause-statements c =
    one_figure c.args.figures.now.items c.push.new.self.items _ _ c.in_ok-push.ensures.items
    (figure_choice c.in_ok-choice.choice
    ∙ c.in_ok-choice.ensures.statements
    ∙ ap (λ l. drawn_statement c.args.test ∷ (l ++ figures_statements c.args.otherwise.items)) c.new.ensures.statements)

pub returns-clause-tree : goal.returns-clause-tree
returns-clause-tree c =
    tree_pushed c.args.figures.now.items c.push.new.self.items _ _ c.in_ok-push.ensures.items
    (tree_of_choice c.in_ok-choice.choice
    ∙ c.in_ok-choice.ensures.tree
    ∙ ap (λ t. fork c.args.test.number t (figures_tree c.args.otherwise.items) stop) c.new.ensures.tree)
