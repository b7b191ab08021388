-- What private contracts cite beside the definitions of Drawn.
use Rattle.std.specs.Prelude.{◌≡◌, List, [], map, ⊤}
use Rattle.chart_layout.specs.declared.figure.Figure.{Figure}
use Rattle.chart_layout.specs.declared.choice.Arm.{Arm, out-Arm}
use Rattle.chart_layout.specs.declared.choice.Choice.{Choice as AnIf, out-Choice}
use Rattle.chart_layout.specs.declared.figure.Body.{Body}
use Rattle.chart_layout.specs.declared.choice.Shape.{Shape}
use Rattle.chart_layout.specs.declared.choice.Shape.TheVariants as shapes
use Rattle.chart_layout.specs.declared.figure.Figure.TheFolds.{fold-Figure, fold-Arm, fold-Choice}
use Rattle.chart_layout.specs.Trees.{shown_tree, stop}
use Rattle.chart_layout.specs.Drawn.{Drawn, arm_step, body_statements, body_step, choice_step, figure_step, concatenated}

abbrev pub figure_statements : Figure → List Drawn
figure_statements = fold-Figure (List Drawn) (List Drawn) (List Drawn) (List Drawn) figure_step arm_step choice_step body_step

abbrev pub arm_statements : Arm → List Drawn
arm_statements = fold-Arm (List Drawn) (List Drawn) (List Drawn) (List Drawn) figure_step arm_step choice_step body_step

abbrev pub choice_statements : AnIf → List Drawn
choice_statements = fold-Choice (List Drawn) (List Drawn) (List Drawn) (List Drawn) figure_step arm_step choice_step body_step

abbrev pub figures_statements : List Figure → List Drawn
figures_statements figures = concatenated (map figure_statements figures)

-- nothing stands in a body but comments
abbrev pub IsBare : Body → Type 0
IsBare b = (body_statements b ≡ []) × (shown_tree b ≡ stop)

-- what is empty where the branches of an IF come together so
abbrev pub HasShape : AnIf → Shape → Type 0
HasShape c shapes.Rail = ⊤
HasShape c shapes.Then = ((out-Choice c).later.items ≡ []) × IsBare (out-Choice c).otherwise
HasShape c shapes.Else = ((out-Choice c).later.items ≡ []) × IsBare (out-Arm (out-Choice c).first).then
HasShape c shapes.Nothing =
    ((out-Choice c).later.items ≡ []) × IsBare (out-Arm (out-Choice c).first).then × IsBare (out-Choice c).otherwise
