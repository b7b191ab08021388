-- Going on from a saved book: a script is cut, the book that it has made there is saved, and another script opens it.
use Rattle.std.specs.Prelude.{◌≡◌, ◌↔◌, List, [], ◌∷◌, ◌++◌, ℕ, None, Some, Ok}
use Rattle.std.specs.List.{AllByRecursion}
use Rattle.outside.specs.Told.{FileMap}
use Rattle.payroll_records.specs.declared.record.Key.{Key}
use Rattle.script_lang.specs.Commands as asked
use Rattle.script_lang.specs.Lines.{IsLine}
use Rattle.saved_items.specs.SavedBooks.{IsSaved}
use Rattle.book_year.specs.Rows.{Job}
use Rattle.recalc_engine.specs.BookLaws.{IsBook, IsSafeJob}
use Rattle.recalc_engine.specs.Contents.{Contents, whole_cost}
use Rattle.recalc_engine.specs.Jobs.{job_of_key}
use Rattle.book_file.specs.BookTexts.{saved_of}
use Rattle.book_file.specs.Saving.{SaveSays}
use Rattle.script_steps.specs.LineTexts.{ok_line}
use Rattle.script_steps.specs.Standings.{answered}
use Rattle.script_steps.specs.Steps.{Standing, Answer, IsStep, Names, first_standing}

-- ---- several lines

-- the lines have these answers, one after another, and leave this
abbrev pub AreSteps : FileMap → Standing → List (List ℕ) → Standing → List Answer → Type 0
AreSteps files from [] to [] = to ≡ from
AreSteps files from (line ∷ lines) to (answer ∷ answers) =
    (next : Standing) × IsStep files from line next answer × AreSteps files next lines to answers
AreSteps files from _ to _ = ⊥

-- the lines have these answers
abbrev pub HaveAnswers : FileMap → Standing → List (List ℕ) → List Answer → Type 0
HaveAnswers files from lines answers = (to : Standing) × AreSteps files from lines to answers

-- each file that the line names is the same in both maps
abbrev pub AreSameFor : FileMap → FileMap → List ℕ → Type 0
AreSameFor files other line = (name : List ℕ) → Names line name → files name ≡ other name

-- ---- a cut

-- these lines of a script have had these answers, and no month was filed; later there is a file with the text as which the
-- book is saved, and this line opens it
pub record IsCut
    (files later : FileMap) (before : List (List ℕ)) (earlier : List Answer) (opening : List ℕ) : Type 0 where
  pub left : Standing
  pub answered : AreSteps files first_standing before left earlier
  pub unfiled : left.filings.last ≡ None
  pub text : List ℕ
  pub saved : SaveSays left.book (Ok text)
  pub file : List ℕ
  pub there : later file ≡ Some text
  pub opens : IsLine opening (asked.opening file)

-- the book is opened, all its jobs are run
abbrev pub opened : Contents → Answer
opened book = answered ok_line (whole_cost book)

-- the book is as every book is, and what is saved of it has a text
pub record IsSavable (book : Contents) : Type 0 where
  pub book_is : IsBook book
  pub saved : IsSaved (saved_of book)

-- ---- laws

-- every book that lines make from the first on is such a book
abbrev pub ScriptsMakeBooks : Type 0
ScriptsMakeBooks =
    (files : FileMap) (lines : List (List ℕ)) (answers : List Answer) (to : Standing)
    → AreSteps files first_standing lines to answers → IsSavable to.book

-- each job of a book that lines make is safe: its plan is accepted, and its run gets to its end
abbrev pub ScriptJobsAreSafe : Type 0
ScriptJobsAreSafe =
    (files : FileMap) (lines : List (List ℕ)) (answers : List Answer) (to : Standing)
    → AreSteps files first_standing lines to answers
    → (k : Key) (j : Job) → job_of_key to.book k ≡ Some j → IsSafeJob j

-- what lines answer follows from the book and from what was filed, and not from the work of the edits before
abbrev pub AnswersFollowBooks : Type 0
AnswersFollowBooks =
    (files : FileMap) (from other : Standing) (lines : List (List ℕ)) (answers : List Answer)
    → from.book ≡ other.book → from.filings ≡ other.filings
    → HaveAnswers files from lines answers → HaveAnswers files other lines answers

-- what lines answer doesn't depend on files that they don't name
abbrev pub AnswersFollowFiles : Type 0
AnswersFollowFiles =
    (files other : FileMap) (from : Standing) (lines : List (List ℕ)) (answers : List Answer)
    → AllByRecursion (AreSameFor files other) lines
    → HaveAnswers files from lines answers → HaveAnswers other from lines answers

-- the lines behind a cut have these further answers in the whole script exactly where they have them in the new one, behind
-- the line that opens the book, over files that are the same for them
abbrev pub CutScriptsGoOn : Type 0
CutScriptsGoOn =
    (files later : FileMap) (before after : List (List ℕ)) (earlier further : List Answer) (opening : List ℕ)
    → (cut : IsCut files later before earlier opening)
    → AllByRecursion (AreSameFor files later) after
    → HaveAnswers files first_standing (before ++ after) (earlier ++ further)
    ↔ HaveAnswers later first_standing (opening ∷ after) (opened cut.left.book ∷ further)
