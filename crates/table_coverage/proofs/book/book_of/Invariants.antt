use Rattle.table_coverage.proofs.book.book_of.Given as goal

abbrev pub ghosts-loaded_book : goal.ghosts-loaded_book
ghosts-loaded_book a = record { name = a.blank.name; parts = a.blank.parts }
