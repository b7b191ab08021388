-- What the line `open` does.
use Rattle.std.specs.Prelude.{◌≡◌, ◌≢◌, ℕ, List, [], None, Result, Ok, Err, codes}
use Rattle.book_edits.specs.Books.{run_count}
use Rattle.recalc_engine.specs.Contents.{Contents, whole_cost}
use Rattle.book_file.specs.BookSays.{BookSays}
use Rattle.book_file.specs.declared.refusal.BookFault.{BookFault}
use Rattle.plan_answers.specs.Answers.{Answer, refusal}
use Rattle.script_steps.specs.LineTexts.{book_detail, ok_line}
use Rattle.script_steps.specs.Standings.{Standing, Stays, answered, with_book}

-- the book has no run and no plan
pub record IsEmpty (book : Contents) : Type 0 where
  pub runs : run_count book.years ≡ 0
  pub plans : book.plans ≡ []

-- the book has no run and no plan, and no month was filed
pub record IsFresh (from : Standing) : Type 0 where
  pub book : IsEmpty from.book
  pub filings : from.filings.last ≡ None

-- why no book is opened
pub data OpenRefusal : Type 0 where
  -- there is a run or a plan
  not_empty : OpenRefusal
  -- a month was filed
  filed : OpenRefusal
  -- the text isn't that of a book
  faulty : BookFault → OpenRefusal

-- the book of the text, which takes the place of an empty one of which nothing was filed; or the first of the refusals
abbrev pub OpenSays : Standing → List ℕ → Result Contents OpenRefusal → Type 0
OpenSays from text (Err not_empty) = IsEmpty from.book → ⊥
OpenSays from text (Err filed) = IsEmpty from.book × (from.filings.last ≢ None)
OpenSays from text (Err (faulty why)) = IsFresh from × BookSays text (Err why)
OpenSays from text (Ok book) = IsFresh from × BookSays text (Ok book)

-- what is written of the refusal of `open`
abbrev pub open_detail : OpenRefusal → List ℕ
open_detail not_empty = codes "book NotEmpty"
open_detail filed = codes "book Filed"
open_detail (faulty why) = book_detail why

-- the book is there, all its jobs were run, and the work of all edits is as before; or nothing changes
abbrev pub IsOpened : Standing → Result Contents OpenRefusal → Standing → Answer → Type 0
IsOpened from (Ok book) to answer = (to ≡ with_book from book) × (answer ≡ answered ok_line (whole_cost book))
IsOpened from (Err why) to answer = Stays from to (refusal (open_detail why)) answer

-- the text is opened
pub record IsOpenStep (from : Standing) (text : List ℕ) (to : Standing) (answer : Answer) : Type 0 where
  pub verdict : Result Contents OpenRefusal
  pub says : OpenSays from text verdict
  pub is : IsOpened from verdict to answer
