use Rattle.std.proofs.Common.{ap, ◌∙◌}
use Rattle.chart_layout.specs.Drawn.{drawn_call}
use Rattle.chart_layout.specs.private.Drawn.{figures_statements}
use Rattle.chart_layout.specs.Statements.{execution}
use Rattle.chart_layout.proofs.DrawnLemmas.{one_figure, figure_call}
use Rattle.chart_layout.proofs.AddingLemmas.{adds_one}
use Rattle.chart_layout.specs.Trees.{step, stop}
use Rattle.chart_layout.proofs.TreeLemmas.{tree_pushed, tree_of_call}
use Rattle.chart_layout.proofs.build.Builder.execution.Goals as goal

pub returns-clause-statements : goal.returns-clause-statements
returns-clause-statements c =
    adds_one c.args.self.now.numbering c.site-site.new.self.numbering (execution c.args.method) (drawn_call c.new.result)
    (figures_statements c.args.figures.now.items) (figures_statements c.push.new.self.items)
    (ap (λ d. d.number) c.new.ensures ∙ c.site-site.ensures.number)
    (ap (λ d. d.is_refused) c.new.ensures ∙ c.site-site.ensures.refused) (ap (λ d. d.text) c.new.ensures) c.site-site.ensures.numbering
    (one_figure c.args.figures.now.items c.push.new.self.items _ _ c.in_ok-push.ensures.items (figure_call c.new.result))

pub returns-clause-tree : goal.returns-clause-tree
returns-clause-tree c =
    tree_pushed c.args.figures.now.items c.push.new.self.items _ _ c.in_ok-push.ensures.items
    (tree_of_call c.new.result ∙ ap (λ n. step n stop) (ap (λ d. d.number) c.new.ensures ∙ c.site-site.ensures.number))
