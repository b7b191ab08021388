-- The comments of a plan's file. Source: XML 1.0, "Comments"; docs/PROFILE.md, "Tags".
use Rattle.std.specs.Prelude.{◌≡◌, ℕ, ◌-◌, ◌⊎◌, true, List, [], ◌∷◌, ◌++◌, length, map}
use Rattle.pap_tree.specs.White.{is_white}
use Rattle.pap_reader.specs.Tags.{Tag, IsTag}
use Rattle.pap_reader.specs.Skipped.{IsAfterProlog}
use Rattle.pap_reader.specs.Tokens.{IsAlien}
use Rattle.plain_words.specs.Positions.{line_of}
use Rattle.plan_notes.specs.Lines.{line_text}
use Rattle.pap_reader.specs.Contents.{IsComment}

-- a comment: the line on which it begins, from 1, and its text
pub record LineComment : Type 0 where
  pub line : ℕ
  pub text : List ℕ

-- the comment of a line with a text
abbrev pub line_comment : ℕ → List ℕ → LineComment
line_comment line text = record { line = line; text = text }

-- the texts of comments
abbrev pub comment_texts : List LineComment → List (List ℕ)
comment_texts comments = map (λ c. c.text) comments

-- the comment with these bytes inside that begins where these are left of a file: its words, with a space between two of them
abbrev pub found_comment : (file left inside : List ℕ) → LineComment
found_comment file left inside = line_comment (line_of file (length file - length left)) (line_text inside)

-- These comments stand in the file before what is left of it, each once and in order: beside them white space and tags alone stand
-- there, behind what may stand before the tokens.
pub data HasPassed : (file : List ℕ) → List LineComment → List ℕ → Type 0 where
  prolog : {file left : List ℕ} → IsAfterProlog file left → HasPassed file [] left
  white : {file left : List ℕ} {b : ℕ} {comments : List LineComment}
      → HasPassed file comments (b ∷ left) → is_white b ≡ true → HasPassed file comments left
  comment : {file bytes inside left : List ℕ} {comments : List LineComment}
      → HasPassed file comments bytes → IsComment bytes inside left
      → HasPassed file (comments ++ (found_comment file bytes inside ∷ [])) left
  tag : {file bytes left : List ℕ} {comments : List LineComment} (t : Tag)
      → HasPassed file comments bytes → IsTag bytes t left → HasPassed file comments left

-- These are the comments of the file, up to its end or to a place where no token begins.
pub record HasComments (file : List ℕ) (comments : List LineComment) : Type 0 where
  pub rest : List ℕ
  pub passed : HasPassed file comments rest
  pub ended : (rest ≡ []) ⊎ IsAlien rest
