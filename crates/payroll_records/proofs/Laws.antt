-- What other crates may cite: the orders of days and of keys are total, and what ties is
-- the same; records with keys of their own; a table's text has one answer, and no other; days
-- and numbers are known by their texts; what words NAME=VALUE give; what stands at the place of a name.
pub use Rattle.payroll_records.proofs.OrderLemmas.{day_total, key_total}
pub use Rattle.payroll_records.proofs.KeyLemmas.{day_same, key_same, own_none, own_more, own_parts, own_rising}
pub use Rattle.payroll_records.proofs.OnceLemmas.{table_once}
pub use Rattle.payroll_records.proofs.SomeLemmas.{table_some}
pub use Rattle.payroll_records.proofs.DecidedLemmas.{Decided, both, by_iff, true_decided, eq_decided, text_decided, month_decided, day_spelled_decided, day_decided}
pub use Rattle.payroll_records.proofs.SpellingLemmas.{same_day, month_numbers, day_numbers, months_once, days_once, whens_once, when_written}
pub use Rattle.payroll_records.proofs.KindLemmas.{same_record}
pub use Rattle.payroll_records.proofs.ValueWordLemmas.{cut_before, value_once, value_word_decided, given_apart, value_count, values_once, no_words, one_more, none_of_differ, inserted, no_value, twice, too_many}
pub use Rattle.payroll_records.proofs.ValueLemmas.{at_place, place_within}
