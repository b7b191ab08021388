-- Going on from a book that `save` has written: a long script, and a short one that opens the book of its first lines.
use Rattle.std.specs.Prelude.{◌≡◌, ℕ, List, ◌∷◌, ◌++◌, Some, false}
use Rattle.std.specs.List.{AllByRecursion}
use Rattle.outside.specs.Told.{FileMap}
use Rattle.plan_answers.specs.Answers.{Answer}
use Rattle.script_lang.specs.Commands as asked
use Rattle.script_lang.specs.Lines.{IsLine}
use Rattle.script_steps.specs.GoingOn.{AreSameFor}
use Rattle.script_steps.specs.LineTexts.{ok_line}
use Rattle.script_run.specs.Transcripts.{Session, IsTranscript, lines_of}
use Rattle.pap_cli.specs.SaveAnswers.{SaveAnswers}

-- `save` has answered the script with the text of a book; later this text is a file's, and this line opens the file
pub record IsTakenUp (files later : FileMap) (script opening : List ℕ) : Type 0 where
  pub answer : Answer
  pub saved : SaveAnswers files script answer
  pub accepted : answer.refused ≡ false
  pub file : List ℕ
  pub there : later file ≡ Some answer.text
  pub opens : IsLine opening (asked.opening file)

-- what is answered behind the first script is what is answered behind `ok`, the answer to the line that opens its book; the same
-- answers are refusals; and the same book is left, of which the same was filed
pub record GoOnAlike (first long short : Session) : Type 0 where
  pub further : List ℕ
  pub behind_first : long.text ≡ first.text ++ further
  pub behind_opening : short.text ≡ ok_line ++ further
  pub refused : short.refused ≡ long.refused
  pub refusals : short.refusals ≡ long.refusals
  pub book : short.standing.book ≡ long.standing.book
  pub filings : short.standing.filings ≡ long.standing.filings

-- two scripts with the same further lines: a long one, which has those of the saved script before them, and a short one, which
-- has the line that opens its book; each file that a further line names is the same for both
pub record AreLongAndShort
    (files later : FileMap) (script opening long short : List ℕ) : Type 0 where
  pub taken_up : IsTakenUp files later script opening
  pub further : List (List ℕ)
  pub long_lines : lines_of long ≡ lines_of script ++ further
  pub short_lines : lines_of short ≡ opening ∷ further
  pub same : AllByRecursion (AreSameFor files later) further

-- ---- laws

-- every two such scripts go on alike
abbrev pub SavedScriptsGoOn : Type 0
SavedScriptsGoOn =
    (files later : FileMap) (script opening long short : List ℕ) (first whole next : Session)
    → AreLongAndShort files later script opening long short
    → IsTranscript files script first → IsTranscript files long whole → IsTranscript later short next
    → GoOnAlike first whole next

-- `save` writes for the short one of two such scripts what it writes for the long one
abbrev pub SavedScriptsAreSaved : Type 0
SavedScriptsAreSaved =
    (files later : FileMap) (script opening long short : List ℕ) (answer other : Answer)
    → AreLongAndShort files later script opening long short
    → SaveAnswers files long answer → SaveAnswers later short other
    → (other.text ≡ answer.text) × (other.refused ≡ answer.refused)
