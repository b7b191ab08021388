-- The text as which a book is saved.
use Rattle.std.specs.Prelude.{◌≤◌, ℕ, List, length, map}
use Rattle.plan_calendar.specs.Picking.{Entry, day_of, plan_of}
use Rattle.saved_items.specs.SavedBooks.{IsSavedText, Saved, SavedPlan, saved_text}
use Rattle.book_year.specs.Accepted.{Accepted}
use Rattle.recalc_engine.specs.BookLaws.{IsBook, runs_listed}
use Rattle.recalc_engine.specs.Contents.{Contents}
use Rattle.book_file.specs.Limits.{most_book_text}

-- what is saved of a plan: its day and its two texts
abbrev pub saved_entry : Entry Accepted → SavedPlan
saved_entry e = record { day = day_of e; plan = (plan_of e).plan; limits = (plan_of e).limits }

-- what is saved of a book: the work of its last edit, its plans in order of day, its runs in order of employee and day
abbrev pub saved_of : Contents → Saved
saved_of book =
    record {
      runs = book.last.runs;
      steps = book.last.steps;
      plans = map saved_entry book.plans;
      records = runs_listed book;
    }

-- the text of a saved book
abbrev pub book_text : Contents → List ℕ
book_text book = saved_text (saved_of book)

-- the bytes are the text of this book, and not too many
pub record IsTextOf (bytes : List ℕ) (book : Contents) : Type 0 where
  pub few : length bytes ≤ most_book_text
  pub book_is : IsBook book
  pub text : IsSavedText bytes (saved_of book)
