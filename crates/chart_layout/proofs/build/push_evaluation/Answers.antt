use Rattle.chart_layout.proofs.DrawnLemmas.{evaluation_push}
use Rattle.chart_layout.proofs.TreeLemmas.{tree_evaluation}
use Rattle.chart_layout.proofs.build.push_evaluation.Goals as goal

pub returns-clause-statements : goal.returns-clause-statements
returns-clause-statements c =
    evaluation_push c.args.figures.now.items c.last_box.new.figures.items c.push-2.new.self.items c.in_ok-row.row c.push.new.self c.args.statement
    c.in_ok-row.ensures.statements c.in_ok-push.ensures.items c.in_ok-push-2.ensures.items

pub returns-clause-tree : goal.returns-clause-tree
returns-clause-tree c =
    tree_evaluation c.args.figures.now.items c.last_box.new.figures.items c.push-2.new.self.items c.in_ok-row.row c.push.new.self c.args.statement
    c.in_ok-row.ensures.tree c.in_ok-push.ensures.items c.in_ok-push-2.ensures.items
