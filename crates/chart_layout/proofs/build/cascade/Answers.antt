use Rattle.chart_layout.proofs.DrawnLemmas.{cascaded}
use Rattle.chart_layout.proofs.TreeLemmas.{tree_cascaded}
use Rattle.chart_layout.proofs.build.cascade.Goals as goal

pub returns-clause-statements : goal.returns-clause-statements
returns-clause-statements c = cascaded c.args.first c.args.note c.args.choice c.push.new.self c.in_ok-push.ensures.items

pub returns-clause-tree : goal.returns-clause-tree
returns-clause-tree c = tree_cascaded c.args.first c.args.note c.args.choice c.push.new.self c.in_ok-push.ensures.items
