-- What `save` writes, once its script is answered to the end.
use Rattle.std.specs.Prelude.{◌≡◌, ℕ, List, codes, Bool, true, false, is_some, All, Result, Ok, Err}
use Rattle.outside.specs.Told.{FileMap}
use Rattle.recalc_engine.specs.Contents.{Contents}
use Rattle.book_file.specs.Saving.{SaveSays}
use Rattle.book_file.specs.declared.refusal.SaveRefusal.{SaveRefusal}
use Rattle.book_file.specs.declared.refusal.SaveRefusal.TheVariants as unsaved
use Rattle.plan_answers.specs.Answers.{Answer}
use Rattle.plan_answers.specs.Lines.{refusal_line}
use Rattle.script_steps.specs.Steps.{Standing, AreThere}
use Rattle.script_run.specs.Transcripts.{Session, lines_of, IsTranscript}

-- a text that is written, and whether it is a refusal
pub record Written : Type 0 where
  pub text : List ℕ
  pub refused : Bool

-- what `save` writes where a line is refused or the book can't be saved
abbrev pub refused_with : List ℕ → Written
refused_with text = record { text = text; refused = true }

-- `save` writes the text of the book, or that it is too long; a book never answers that memory ran out
abbrev pub IsVerdict : Result (List ℕ) SaveRefusal → Written → Type 0
IsVerdict (Ok text) written = written ≡ record { text = text; refused = false }
IsVerdict (Err unsaved.Long) written = written ≡ refused_with (refusal_line (codes "book Long"))
IsVerdict (Err (unsaved.Memory e)) written = ⊥

-- `save` writes the saved text of a book, or why the book isn't saved
pub record IsBookWritten (book : Contents) (written : Written) : Type 0 where
  pub verdict : Result (List ℕ) SaveRefusal
  pub says : SaveSays book verdict
  pub is : IsVerdict verdict written

-- what `save` writes: the refusals alone where an answer is a refusal; else that a month was filed, where one
-- was; else the last book
abbrev pub IsSave : Bool → Bool → List ℕ → Contents → Written → Type 0
IsSave true filed refusals book written = written ≡ refused_with refusals
IsSave false true refusals book written = written ≡ refused_with (refusal_line (codes "book Filed"))
IsSave false false refusals book written = IsBookWritten book written

-- a month was filed
abbrev pub was_filed : Standing → Bool
was_filed standing = is_some standing.filings.last

-- what is written of a script whose lines are answered so
abbrev pub IsSaveOf : Session → Written → Type 0
IsSaveOf session written = IsSave session.refused (was_filed session.standing) session.refusals session.standing.book written

-- the answer of `save` to a script, where each file that its lines name is there
pub record SaveAnswers (files : FileMap) (script : List ℕ) (answer : Answer) : Type 0 where
  pub session : Session
  pub is : IsTranscript files script session
  pub there : All (λ line. AreThere files line) (lines_of script)
  pub save : IsSaveOf session (record { text = answer.text; refused = answer.refused })
  pub cost : answer.steps ≡ session.steps
