-- What the reading of a saved book promises.
use Rattle.std.specs.Prelude.{◌≡◌, ◌≤◌, ◌+◌, ℕ, List, length, Result, Ok, Err}
use Rattle.recalc_engine.specs.declared.book.RestoredBook.{RestoredBook}
use Rattle.recalc_engine.specs.Contents.{Contents, whole_cost}
use Rattle.book_file.specs.BookSays.{BookSays}
use Rattle.book_file.specs.Limits.{most_book_text}
use Rattle.book_file.specs.declared.refusal.BookFault.{BookFault}
use Rattle.book_file.specs.declared.refusal.BookFault.TheVariants as fault

-- the fault is what the text says, or memory ran out, which may be at any text that isn't too long
abbrev pub IsBookFaultOrMemory : List ℕ → BookFault → Type 0
IsBookFaultOrMemory bytes (fault.Memory e) = length bytes ≤ most_book_text
IsBookFaultOrMemory bytes why = BookSays bytes (Err why)

-- the cost of all jobs of the book, where the text says one
abbrev pub said_cost : Result Contents BookFault → ℕ
said_cost (Ok book) = whole_cost book
said_cost (Err why) = 0

-- a counter rose by the cost of all jobs of the book that was read; it stayed where a fault was found; where memory ran out
-- it rose by at most the cost of the book that the text says, and stayed where it says none
abbrev pub CountsRead : List ℕ → Result RestoredBook BookFault → ℕ → ℕ → Type 0
CountsRead bytes (Ok restored) before now = now ≡ before + whole_cost restored.book
CountsRead bytes (Err (fault.Memory e)) before now =
    (before ≤ now)
    × ((said : Result Contents BookFault) → BookSays bytes said → now ≤ before + said_cost said)
CountsRead bytes (Err why) before now = now ≡ before
