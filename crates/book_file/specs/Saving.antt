-- Whether a book is saved.
use Rattle.std.specs.Prelude.{◌≡◌, ◌≤◌, ◌<◌, ℕ, List, length, Result, Ok, Err, ⊤}
use Rattle.recalc_engine.specs.Contents.{Contents}
use Rattle.book_file.specs.BookTexts.{book_text}
use Rattle.book_file.specs.Limits.{most_book_text}
use Rattle.book_file.specs.declared.refusal.SaveRefusal.{SaveRefusal}
use Rattle.book_file.specs.declared.refusal.SaveRefusal.TheVariants as refusal

-- the text of a book, unless it is too long; a book never answers that memory ran out
abbrev pub SaveSays : Contents → Result (List ℕ) SaveRefusal → Type 0
SaveSays book (Ok text) = (text ≡ book_text book) × (length text ≤ most_book_text)
SaveSays book (Err refusal.Long) = most_book_text < length (book_text book)
SaveSays book (Err (refusal.Memory e)) = ⊥

-- why a call saves no book: the book's text is too long, or memory ran out, which may be at any book
abbrev pub IsUnsaved : Contents → SaveRefusal → Type 0
IsUnsaved book (refusal.Memory e) = ⊤
IsUnsaved book why = SaveSays book (Err why)
