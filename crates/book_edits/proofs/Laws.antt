-- The laws that other crates may cite.
-- Lists with rising keys: seen through a map, edited element by element, and added up.
pub use Rattle.book_edits.proofs.ListLemmas.{at_key_map, map_put, map_without, rising_map, map_rising, all_put, all_without, put_some, at_key_tied, found_each, sum_put, sum_without, length_put, length_without}
-- The order of years is total, and keys of years that tie are one key.
pub use Rattle.book_edits.proofs.YearsLemmas.{year_total, year_same}
-- Years that are kept have nothing to run against themselves, and an edit of one year runs what is new in it.
pub use Rattle.book_edits.proofs.YearsLemmas.{IsQuiet, jobs_quiet, jobs_with_runs, quiet_years, runs_kept, runs_missed, kept_in_order}
-- An edit of one of the years that are kept: put, inserted, written at its place, taken away, or as before.
pub use Rattle.book_edits.proofs.YearsLemmas.{IsFound, found_year, put_edit, insert_edit, runs_here, year_here, set_edit, set_same, remove_edit}
-- The days of a year's runs rise.
pub use Rattle.book_edits.proofs.MonthLemmas.{runs_rising}
-- A calendar whose plans stand without their code is as long, and its days rise.
pub use Rattle.book_edits.proofs.PlanLemmas.{plans_length, plans_rise}
-- Years that are kept by one calendar are kept by another that gives each day the same plan.
pub use Rattle.book_edits.proofs.PlanLemmas.{same_years}
-- There are at most 50,000 years; years computed anew, one after another.
pub use Rattle.book_edits.proofs.YearLemmas.{years_few}
pub use Rattle.book_edits.proofs.RedoneLemmas.{IsRedoing, redoing_more, out_in, out_after}
