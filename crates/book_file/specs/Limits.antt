-- The limit of a saved book.
use Rattle.std.specs.Prelude.{ℕ}

-- the text of a saved book has at most so many bytes
abbrev pub most_book_text : ℕ
most_book_text = 268435456
