-- The laws that other crates may cite.
-- A year's runs: those of a front of its records are a front of its runs; so of the new jobs and of their cost.
pub use Rattle.book_year.proofs.RowLemmas.{rows_append, rows_more, new_jobs_append, total_append, total_front, row_of_day}
-- One row for each record.
pub use Rattle.book_year.proofs.OldLemmas.{rows_length}
-- A year has at most 366 runs.
pub use Rattle.book_year.proofs.YearLemmas.{own_few}
-- An edit of a year's records keeps their order and what holds of each.
pub use Rattle.book_year.proofs.RecordLemmas.{rising_put, rising_without, all_put, all_without}
-- The records before a day stay where one is put at that day or later, and the front of a year that stays.
pub use Rattle.book_year.proofs.BeforeLemmas.{IsBefore, all_fewer, front_put, front_long}
pub use Rattle.book_year.proofs.FrontLemmas.{front_is, plans_stay}
-- A year that stays has no new jobs; plans that agree on a year's days give the same runs, whose days rise.
pub use Rattle.book_year.proofs.QuietLemmas.{year_quiet, rows_agree, rows_rising}
-- The plan of a day is picked alike where each plan stands without its code.
pub use Rattle.book_year.proofs.PickLemmas.{last_map, pick_in, pick_before_in, pick_before_lent}
-- Two decimals are told the same exactly where they are.
pub use Rattle.book_year.proofs.JobLemmas.{decimal_decides}
