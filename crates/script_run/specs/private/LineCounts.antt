-- What private contracts cite beside the definitions of LineCounts and of Notes.
use Rattle.std.specs.Prelude.{◌≡◌, ℕ, ◌+◌, Bool, if◌then◌else◌, List, [], ◌∷◌, ◌++◌}
use Rattle.plain_words.specs.Lines.{IsOneLine}
use Rattle.script_run.specs.Notes.{IsToldOf, NotesShown, reason_line}
use Rattle.script_run.specs.declared.line_counts.LineCounts.{LineCounts}

-- the numbers of the refused lines, with that of one more line where it is refused
abbrev pub noted : List ℕ → ℕ → Bool → List ℕ
noted refused number is_refused = refused ++ (if is_refused then number ∷ [] else [])

-- one more line is counted, behind whatever lines were, and whether it is refused; where it is, its reason was put to the notes
abbrev pub Notes : LineCounts → NotesShown → LineCounts → NotesShown → Bool → Type 0
Notes was old is new is_refused =
    (first : NotesShown) (answered : ℕ) (refused : List ℕ)
    → IsToldOf answered refused (record { counts = was; before = first; after = old })
    → IsToldOf (answered + 1) (noted refused (answered + 1) is_refused)
    (record { counts = is; before = first; after = new })

-- the text is the line of some reason of this number, whose words are one line
pub record IsReasonText (number : ℕ) (text : List ℕ) : Type 0 where
  pub words : List ℕ
  pub line : IsOneLine words
  pub is : text ≡ reason_line (record { number = number; words = words })
