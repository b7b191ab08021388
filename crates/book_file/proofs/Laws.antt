-- The laws that other crates may cite.
-- Every text says one thing; a front that is longer than the limit tells what; a text is that of one book.
pub use Rattle.book_file.proofs.AnswerLemmas.{some, one, fronts, one_book}
