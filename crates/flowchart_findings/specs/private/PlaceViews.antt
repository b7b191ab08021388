-- A place in a text with its line and column.
use Rattle.std.specs.Prelude.{◌≡◌, ◌≤◌, ℕ, List, length}
use Rattle.plain_words.specs.Positions.{line_of, column_of}
use Rattle.flowchart_findings.specs.declared.cursor.Cursor.{Cursor}

-- the cursor is at a byte of the text, or at its end, with its line and column
pub record IsCursor (text : List ℕ) (cursor : Cursor) : Type 0 where
  pub within : cursor.at ≤ length text
  pub line : cursor.line ≡ line_of text cursor.at
  pub column : cursor.column ≡ column_of text cursor.at

-- the cursor has the line and the column of a byte
pub record HasPositionOf (text : List ℕ) (cursor : Cursor) (at : ℕ) : Type 0 where
  pub line : cursor.line ≡ line_of text at
  pub column : cursor.column ≡ column_of text at
