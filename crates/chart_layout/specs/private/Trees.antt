-- What private contracts cite beside the definitions of Trees.
use Rattle.std.specs.Prelude.{ℕ, List, map, take}
use Rattle.pap_reader.specs.declared.elements.RawStmt.{RawStmt}
use Rattle.pap_reader.specs.Trees.{done, raw_stmt_then}
use Rattle.chart_layout.specs.declared.figure.Figure.{Figure}
use Rattle.chart_layout.specs.declared.choice.Arm.{Arm}
use Rattle.chart_layout.specs.declared.choice.Choice.{Choice as AnIf, out-Choice}
use Rattle.chart_layout.specs.declared.figure.Figure.TheFolds.{fold-Figure, fold-Arm, fold-Choice}
use Rattle.chart_layout.specs.Trees.{Tree, figure_shows, arm_shows, choice_shows, body_shows, stacked, nested, shown_tree, drawing_of}

abbrev pub figure_tree : Figure → Tree
figure_tree = fold-Figure Tree (Tree → Tree) Tree Tree figure_shows arm_shows choice_shows body_shows

abbrev pub arm_tree : Arm → Tree → Tree
arm_tree = fold-Arm Tree (Tree → Tree) Tree Tree figure_shows arm_shows choice_shows body_shows

abbrev pub choice_tree : AnIf → Tree
choice_tree = fold-Choice Tree (Tree → Tree) Tree Tree figure_shows arm_shows choice_shows body_shows

abbrev pub figures_tree : List Figure → Tree
figures_tree figures = stacked (map figure_tree figures)

-- a statement without those that follow it
abbrev pub drawing_in : ℕ → RawStmt → Tree
drawing_in n s = drawing_of n (raw_stmt_then s done)

-- what stands on the way `no` of the arm that comes before so many of the later ones
abbrev pub behind_arms : AnIf → ℕ → Tree
behind_arms c left = nested (map arm_tree (take left (out-Choice c).later.items)) (shown_tree (out-Choice c).otherwise)
