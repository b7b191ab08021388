-- The laws that other crates may cite.
-- Every edit of every book has one answer.
pub use Rattle.recalc_engine.proofs.AnswerLemmas.{one_answer}
-- The rows of a book rise by key, one for each run, and the row of a key is its run computed anew.
pub use Rattle.recalc_engine.proofs.BookLemmas.{book_rows_counted, book_rows_rise, book_rows_runs}
-- The outputs of each of its runs have different names.
pub use Rattle.recalc_engine.proofs.OutputLemmas.{book_rows_named}
-- A book is the book of its runs, plans and last work, and its runs have different keys, which rise.
pub use Rattle.recalc_engine.proofs.ListedLemmas.{parts_make, runs_distinct, runs_rise}
-- Years in order are those of their runs, put one after another; an element put behind all others of a rising list.
pub use Rattle.recalc_engine.proofs.ListedLemmas.{AllBelow, front_below, put_end, years_listed}
-- A book has nothing to run against itself; a plan with the texts that stand at its day changes nothing; jobs are done.
pub use Rattle.recalc_engine.proofs.SameLemmas.{book_quiet, jobs_done, same_texts}
-- The new jobs of a book are those of its keys; each job is safe.
pub use Rattle.recalc_engine.proofs.KeyedJobLemmas.{jobs_by_key}
pub use Rattle.recalc_engine.proofs.SafeLemmas.{jobs_safe}
-- An edit of the runs changes the run at its key alone; so it is of each accepted edit of a book.
pub use Rattle.recalc_engine.proofs.MapLemmas.{runs_mapped}
pub use Rattle.recalc_engine.proofs.EditMapLemmas.{edits_mapped}
-- What is kept of a year is the rows of its runs; the plan of each day is accepted; outputs of each run have different names.
pub use Rattle.recalc_engine.proofs.MonthLemmas.{year_kept_by}
pub use Rattle.recalc_engine.proofs.OutputLemmas.{no_names, picked_plan, rows_named}
