-- The statements of a method's figures and of its drawing, in order.
use Rattle.std.specs.Prelude.{◌≡◌, ℕ, Bool, List, [], ◌∷◌, ◌++◌, map}
use Rattle.std.specs.List.{flat_map}
use Rattle.chart_layout.specs.declared.statement.Statement.{Statement}
use Rattle.chart_layout.specs.declared.statement.Call.{Call as Execute}
use Rattle.chart_layout.specs.declared.figure.Body.{Body, out-Body}
use Rattle.chart_layout.specs.declared.figure.Figure.TheOpen.{Figure-F, Note, Box, Call, Choice, Arm-F, Choice-F, Body-F}
use Rattle.chart_layout.specs.declared.figure.Figure.TheFolds.{fold-Body}
use Rattle.chart_layout.specs.declared.drawing.Row.{Row}
use Rattle.chart_layout.specs.declared.drawing.Row.TheVariants as rows
use Rattle.chart_layout.specs.declared.drawing.Part.{Part}

-- a statement as it is drawn: its number in its method, whether it is marked as the refused one, and its text, of an EXECUTE the
-- name of the method
pub record Drawn : Type 0 where
  pub number : ℕ
  pub is_refused : Bool
  pub text : List ℕ

-- a drawn statement of these parts
abbrev pub drawn : ℕ → Bool → List ℕ → Drawn
drawn number is_refused text = record { number = number; is_refused = is_refused; text = text }

-- a statement of a box or a test, as it is drawn
abbrev pub drawn_statement : Statement → Drawn
drawn_statement s = drawn s.number s.is_refused s.written.text.items

-- an EXECUTE, as it is drawn
abbrev pub drawn_call : Execute → Drawn
drawn_call c = drawn c.number c.is_refused c.method

-- ---- of figures: each step is given the statements of the parts

-- the lists one after the other
abbrev pub concatenated : List (List Drawn) → List Drawn
concatenated [] = []
concatenated (l ∷ ls) = l ++ concatenated ls

-- the lists one after the other, from the last to the first
abbrev pub joined_back : List (List Drawn) → List Drawn
joined_back [] = []
joined_back (l ∷ ls) = joined_back ls ++ l

-- the drawn statements of a figure: of a box its statements, of a call one, of a choice those of its parts, of a note
-- none
abbrev pub figure_step : Figure-F (List Drawn) (List Drawn) (List Drawn) (List Drawn) → List Drawn
figure_step (Note n) = []
figure_step (Box row) = map drawn_statement row.items
figure_step (Call c) = drawn_call c ∷ []
figure_step (Choice c) = c

-- a test stands before its THEN
abbrev pub arm_step : Arm-F (List Drawn) (List Drawn) (List Drawn) (List Drawn) → List Drawn
arm_step a = drawn_statement a.test ∷ a.then

-- the later arms stand from the last to the first
abbrev pub choice_step : Choice-F (List Drawn) (List Drawn) (List Drawn) (List Drawn) → List Drawn
choice_step c = c.first ++ (joined_back c.later.items ++ c.otherwise)

-- the drawn statements of a body: those of its figures, one after another
abbrev pub body_step : Body-F (List Drawn) (List Drawn) (List Drawn) (List Drawn) → List Drawn
body_step b = concatenated b.figures.items

-- the drawn statements of a method's figures, in order
abbrev pub body_statements : Body → List Drawn
body_statements = fold-Body (List Drawn) (List Drawn) (List Drawn) (List Drawn) figure_step arm_step choice_step body_step

-- nothing stands in the body, no comment either
abbrev pub IsBlank : Body → Type 0
IsBlank b = (out-Body b).figures.items ≡ []

-- ---- of a drawing

-- the drawn statements of a row of a drawing
abbrev pub row_statements : Row → List Drawn
row_statements (rows.Box x y width height row) = map drawn_statement row.now
row_statements (rows.Test x y test) = drawn_statement test.now ∷ []
row_statements (rows.Call x y call) = drawn_call call.now ∷ []
row_statements _ = []

-- the drawn statements of a part of a drawing, one row after another
abbrev pub part_statements : Part → List Drawn
part_statements p = flat_map row_statements p.rows.items

-- the statements of a drawing's parts, one row after the other
abbrev pub drawing_statements : List Part → List Drawn
drawing_statements parts = flat_map part_statements parts

-- the rows of a drawing's parts
abbrev pub drawing_rows : List Part → List Row
drawing_rows parts = flat_map (λ p. p.rows.items) parts
