-- What the lines of a script leave, and what a line answers.
use Rattle.std.specs.Prelude.{◌≡◌, ◌⊎◌, ℕ, ◌+◌, ◌-◌, ◌^◌, List, [], false, None, min}
use Rattle.book_year.specs.declared.outcome.Work.{Work}
use Rattle.recalc_engine.specs.Contents.{Contents}
use Rattle.correction_ledger.specs.Filings.{Filings}
use Rattle.plan_answers.specs.Answers.{Answer}

-- what the lines before have left: the book, what was filed of it, and the work of all edits that were accepted
pub record Standing : Type 0 where
  pub book : Contents
  pub filings : Filings
  pub made : Work

-- work and more work: a total stands still at the greatest number of 64 bits
abbrev pub more_work : Work → Work → Work
more_work made work = record {
  runs = min (made.runs + work.runs) (2 ^ 64 - 1);
  steps = min (made.steps + work.steps) (2 ^ 64 - 1);
}

-- an edit was accepted, and has left this book
abbrev pub after_edit : Standing → Contents → Standing
after_edit from book = record {
  book = book;
  filings = from.filings;
  made = more_work from.made book.last;
}

-- another book takes the place of its book
abbrev pub with_book : Standing → Contents → Standing
with_book from book = record { book = book; filings = from.filings; made = from.made }

-- a month was filed, and has left these filings
abbrev pub after_filing : Standing → Filings → Standing
after_filing from filings = record { book = from.book; filings = filings; made = from.made }

-- what stands before the first line: an empty book, of which nothing was filed, and no work
abbrev pub first_standing : Standing
first_standing = record {
  book = record { years = []; plans = []; last = record { runs = 0; steps = 0 } };
  filings = record { entries = []; last = None };
  made = record { runs = 0; steps = 0 };
}

-- an answer that isn't a refusal: its text, and the steps that it counts
abbrev pub answered : List ℕ → ℕ → Answer
answered text steps = record { text = text; refused = false; steps = steps }

-- what a line leaves and answers
abbrev pub Doing : Type 1
Doing = Standing → Answer → Type 0

-- nothing changes, and this is answered
abbrev pub Stays : Standing → Standing → Answer → Answer → Type 0
Stays from to said answer = (to ≡ from) × (answer ≡ said)

-- what is left is as it was, or what the line leaves
abbrev pub StaysOrSteps : Doing → Standing → Standing → Type 0
StaysOrSteps Step from to = (to ≡ from) ⊎ ((answer : Answer) × Step to answer)

-- nothing is written
abbrev pub silence : Answer
silence = answered [] 0
