use Rattle.std.proofs.Common.{◌≡◌, ◌≤◌, ◌++◌, length, map, take, drop}
use Rattle.chart_layout.specs.declared.choice.Choice.{out-Choice}
use Rattle.chart_layout.specs.Drawn.{concatenated, joined_back, drawing_rows, body_statements}
use Rattle.chart_layout.specs.Trees.{stacked, shown_tree}
use Rattle.chart_layout.specs.Leads.{leaving, lines, ways_of}
use Rattle.chart_layout.specs.private.Drawn.{figure_statements, arm_statements}
use Rattle.chart_layout.specs.private.Trees.{figure_tree, choice_tree, behind_arms}
use Rattle.chart_layout.specs.private.Leads.{statements_in, ways_in, end_behind, Leaves}
use Rattle.chart_layout.proofs.pen.Pen.+draw.Given as goal

-- the arms from the second on that aren't drawn are those before a number
abbrev pub invariant-arms-loop-left : goal.invariant-arms-loop-left
invariant-arms-loop-left l =
    (l.left ≤ length (out-Choice l.choice).later.items)
    × (statements_in (drawing_rows l.self.parts.items)
    ++ joined_back (map arm_statements (take l.left (out-Choice l.choice).later.items))
    ≡ statements_in (drawing_rows l.fn.self.parts.items)
    ++ (arm_statements (out-Choice l.choice).first
    ++ joined_back (map arm_statements (out-Choice l.choice).later.items)))
    × (ways_in (drawing_rows l.self.parts.items) ++ ways_of (behind_arms l.choice l.left)
    ≡ ways_in (drawing_rows l.fn.self.parts.items) ++ ways_of (choice_tree l.choice))
    × (l.self.leads.items ++ lines l.spot.exits.items (behind_arms l.choice l.left)
    ≡ l.fn.self.leads.items ++ lines l.fn.spot.exits.items (choice_tree l.choice))
    × (l.rail.exits.items ++ leaving l.spot.exits.items (behind_arms l.choice l.left)
    ≡ l.fn.rail.exits.items ++ leaving l.fn.spot.exits.items (choice_tree l.choice))

abbrev pub decreases-arms-loop-left : goal.decreases-arms-loop-left
decreases-arms-loop-left l = l.left

-- the figures from a number on aren't drawn yet
abbrev pub invariant-body-loop-i : goal.invariant-body-loop-i
invariant-body-loop-i l =
    (statements_in (drawing_rows l.self.parts.items) ++ concatenated (map figure_statements (drop l.i l.figure-items))
    ≡ statements_in (drawing_rows l.fn.self.parts.items) ++ body_statements l.fn.body)
    × (ways_in (drawing_rows l.self.parts.items) ++ ways_of (stacked (map figure_tree (drop l.i l.figure-items)))
    ≡ ways_in (drawing_rows l.fn.self.parts.items) ++ ways_of (shown_tree l.fn.body))
    × (l.self.leads.items ++ lines l.spot.exits.items (stacked (map figure_tree (drop l.i l.figure-items)))
    ≡ l.fn.self.leads.items ++ lines l.fn.spot.exits.items (shown_tree l.fn.body))
    × Leaves (end_behind l.i (length l.figure-items) l.end) l.fn.rail.exits.items l.rail.exits.items
    (leaving l.spot.exits.items (stacked (map figure_tree (drop l.i l.figure-items))))
    (leaving l.fn.spot.exits.items (shown_tree l.fn.body))
