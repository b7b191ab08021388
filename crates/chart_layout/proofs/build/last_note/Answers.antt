use Rattle.std.proofs.Common.{sym}
use Rattle.chart_layout.proofs.DrawnLemmas.{note_last}
use Rattle.chart_layout.proofs.TreeLemmas.{tree_note_last}
use Rattle.chart_layout.proofs.build.last_note.Goals as goal

pub returns-in-Some-Note-clause-statements : goal.returns-in-Some-Note-clause-statements
returns-in-Some-Note-clause-statements c =
    sym (note_last c.pop.new.self.items c.args.figures.now.items _ c.in-Some-Note.note c.in-Some-Note.ensures.items c.in-Some-Note.field-0-is)

pub returns-in-Some-Note-clause-tree : goal.returns-in-Some-Note-clause-tree
returns-in-Some-Note-clause-tree c =
    sym (tree_note_last c.pop.new.self.items c.args.figures.now.items _ c.in-Some-Note.note c.in-Some-Note.ensures.items c.in-Some-Note.field-0-is)
