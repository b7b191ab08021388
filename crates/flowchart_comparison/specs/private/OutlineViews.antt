-- Lines as they are added.
use Rattle.std.specs.Prelude.{◌≡◌, ℕ, ◌+◌, List, [], ◌∷◌, ◌++◌}
use Rattle.pap_tree.specs.Flowchart.{Body}
use Rattle.pap_tree.specs.Statements.{written}
use Rattle.flowchart_comparison.specs.Outlines.{TextLine, statement, mark, else_mark, outline_lines}

-- the lines of a list of statements are added, and its statements counted
pub record AddsLines (body : Body) (next next' : ℕ) (lines lines' : List TextLine) : Type 0 where
  pub counted : next' ≡ next + written body
  pub added : lines' ≡ lines ++ outline_lines next body

-- the line of the next statement is added
pub record AddsOne (text : List ℕ) (next next' : ℕ) (lines lines' : List TextLine) : Type 0 where
  pub counted : next' ≡ next + 1
  pub added : lines' ≡ lines ++ (statement next text ∷ [])

-- a line that begins no statement is added
pub record AddsMark (text : List ℕ) (next next' : ℕ) (lines lines' : List TextLine) : Type 0 where
  pub counted : next' ≡ next
  pub added : lines' ≡ lines ++ (mark text ∷ [])

-- ELSE is added where the second list of an IF has a statement
pub record AddsElse (body : Body) (next next' : ℕ) (lines lines' : List TextLine) : Type 0 where
  pub counted : next' ≡ next
  pub added : lines' ≡ lines ++ else_mark body
