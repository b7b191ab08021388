use Rattle.chart_layout.proofs.DrawnLemmas.{box_last}
use Rattle.chart_layout.proofs.TreeLemmas.{tree_box_last}
use Rattle.chart_layout.proofs.build.last_box.Goals as goal

pub returns-then-le-clause-statements : goal.returns-then-le-clause-statements
returns-then-le-clause-statements c =
    box_last c.pop.new.self.items c.args.figures.now.items _ c.in-Some-Box.row c.in-Some-Box.ensures.items c.in-Some-Box.field-0-is

pub returns-then-le-clause-tree : goal.returns-then-le-clause-tree
returns-then-le-clause-tree c =
    tree_box_last c.pop.new.self.items c.args.figures.now.items _ c.in-Some-Box.row c.in-Some-Box.ensures.items c.in-Some-Box.field-0-is
