use Rattle.std.proofs.Common.{refl, ◌∙◌}
use Rattle.chart_layout.proofs.DrawnLemmas.{note_last}
use Rattle.chart_layout.proofs.TreeLemmas.{tree_note_last}
use Rattle.chart_layout.proofs.build.push_comments.Goals as goal

pub returns-clause-statements : goal.returns-clause-statements
returns-clause-statements c =
    note_last c.last_note.new.figures.items c.push.new.self.items _ c.append.new.self c.in_ok-push.ensures.items refl
    ∙ c.in_ok-note.ensures.statements

pub returns-clause-tree : goal.returns-clause-tree
returns-clause-tree c =
    tree_note_last c.last_note.new.figures.items c.push.new.self.items _ c.append.new.self c.in_ok-push.ensures.items refl
    ∙ c.in_ok-note.ensures.tree
