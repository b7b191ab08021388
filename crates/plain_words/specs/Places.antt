-- Places in the files of a plan, as the words of a refusal name them.
use Rattle.std.specs.Prelude.{ℕ, List, [], Option, Some, None, ◌≡◌, ◌≢◌, ◌++◌, codes}
use Rattle.plain_words.specs.declared.place.TextFile.{TextFile}
use Rattle.plain_words.specs.Lines.{shown_text}
use Rattle.plain_words.specs.Positions.{line_of, column_of, position_text}

-- a file as it was named, and the bytes that were read of it
pub record NamedText : Type 0 where
  pub name : List ℕ
  pub bytes : List ℕ

-- a file as its name and its bytes
abbrev pub named_text : TextFile → NamedText
named_text file = record { name = file.name.now; bytes = file.bytes.now }

-- NAME:LINE:COLUMN of a byte of a file; without a byte NAME alone
abbrev pub place_text : NamedText → Option ℕ → List ℕ
place_text file (Some at) = file.name ++ (codes ":" ++ position_text (line_of file.bytes at) (column_of file.bytes at))
place_text file None = file.name

-- ---- the two files of a plan

-- the flowchart's file and its range file
pub record PlanFiles : Type 0 where
  pub plan : NamedText
  pub ranges : NamedText

-- two files as the two of a plan
abbrev pub files_of : TextFile → TextFile → PlanFiles
files_of plan ranges = record { plan = named_text plan; ranges = named_text ranges }

-- a place in one of the two files of a plan: a byte, or the file as a whole
pub data PlanPlace : Type 0 where
  in_plan : Option ℕ → PlanPlace
  in_ranges : Option ℕ → PlanPlace

-- the place as the words name it
abbrev pub place_in_words : PlanFiles → PlanPlace → List ℕ
place_in_words files (in_plan at) = place_text files.plan at
place_in_words files (in_ranges at) = place_text files.ranges at

-- what is shown of this place, a colon and a space, and then a text
abbrev pub words_at : PlanFiles → PlanPlace → List ℕ → List ℕ
words_at files place text = shown_text (place_in_words files place ++ (codes ": " ++ text))

-- the text of a reason: what is wrong, which isn't empty, and behind a semicolon and a space what helps
pub record IsReason (text : List ℕ) : Type 0 where
  pub wrong : List ℕ
  pub help : List ℕ
  pub some : wrong ≢ []
  pub is : text ≡ wrong ++ (codes "; " ++ help)
