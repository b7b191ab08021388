-- A place in a text with its line.
use Rattle.std.specs.Prelude.{◌≡◌, ◌≤◌, ℕ, List, length}
use Rattle.plain_words.specs.Positions.{line_of}
use Rattle.source_lines.specs.declared.cursor.Spot.{Spot}

-- the spot is a byte of the text, or its end, with its line
pub record IsSpot (text : List ℕ) (spot : Spot) : Type 0 where
  pub within : spot.at ≤ length text
  pub line : spot.line ≡ line_of text spot.at
