-- The laws of lists whose keys rise, for crates above.
-- What an edit leaves at each key, and what a binary search finds.
pub use Rattle.rising_lists.proofs.KeyLemmas.{above_all, above_more, above_same, sorted_of_rising, rising_far, searched, at_tail, gap_tail, gap_first, at_key_here, put_here, without_here, at_key_gap, put_gap, put_rising, without_rising, at_key_above, at_key_put, one_key, at_key_without, without_gap, rising_append, finds, misses, found}
-- The elements of a list, and what stands at their keys.
pub use Rattle.rising_lists.proofs.ElementLemmas.{In, contains_of_in, in_of_contains, all_in, tied, some_same, none_some, found_in, all_above, above_all_of, above_in, at_key_none, in_found}
-- Mapped lists.
pub use Rattle.rising_lists.proofs.MappedLemmas.{above_filter_map, rising_filter_map, at_key_filter_map, above_map, rising_map, at_key_map}
-- Keys that tie are one; lists that are sorted by texts that differ.
pub use Rattle.rising_lists.proofs.TextKeyLemmas.{first_tie, second_tie, text_same, sorted_by_text}
