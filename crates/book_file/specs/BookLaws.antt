-- The laws of saved books.
use Rattle.std.specs.Prelude.{◌≡◌, ◌<◌, ℕ, List, Result, take}
use Rattle.recalc_engine.specs.Contents.{Contents}
use Rattle.book_file.specs.BookSays.{BookSays}
use Rattle.book_file.specs.BookTexts.{IsTextOf}
use Rattle.book_file.specs.Limits.{most_book_text}
use Rattle.book_file.specs.Saving.{SaveSays}
use Rattle.book_file.specs.declared.refusal.BookFault.{BookFault}
use Rattle.book_file.specs.declared.refusal.SaveRefusal.{SaveRefusal}

-- every text says something
abbrev pub TextsSaySomething : Type 0
TextsSaySomething = (bytes : List ℕ) → (said : Result Contents BookFault) × BookSays bytes said

-- no text says two things
abbrev pub TextsSayOneThing : Type 0
TextsSayOneThing =
    (bytes : List ℕ) (a b : Result Contents BookFault) → BookSays bytes a → BookSays bytes b → a ≡ b

-- one byte more than the limit tells what the text says
abbrev pub FrontsTell : Type 0
FrontsTell =
    (n : ℕ) (bytes : List ℕ) → most_book_text < n → (said : Result Contents BookFault)
    → BookSays (take n bytes) said → BookSays bytes said

-- a text is that of at most one book
abbrev pub TextsAreOfOneBook : Type 0
TextsAreOfOneBook =
    (bytes : List ℕ) (a b : Contents) → IsTextOf bytes a → IsTextOf bytes b → a ≡ b

-- every book is saved in one way, or its text is too long
abbrev pub BooksAreSavedOneWay : Type 0
BooksAreSavedOneWay =
    (book : Contents) (a b : Result (List ℕ) SaveRefusal) → SaveSays book a → SaveSays book b → a ≡ b

-- every book has an answer to being saved: its text, or that this is too long
abbrev pub BooksAreSaved : Type 0
BooksAreSaved = (book : Contents) → (said : Result (List ℕ) SaveRefusal) × SaveSays book said
