-- What other crates may cite: of the machine's run, of the answer, and of bytes.
pub use Rattle.expr_grammar.proofs.Runs.{not_over, no_limits, over, stepped, stuck, too_deep, Rests, alike, taken, named_alone}
pub use Rattle.expr_grammar.proofs.Closing.{stays, stays_whole, operator_low, operator_high}
pub use Rattle.expr_grammar.proofs.Words.{call_is, known_is, old_mode_is, new_mode_is, picked, token_is}
pub use Rattle.expr_grammar.proofs.ShortenedLemmas.{shortened_is, is_shortened}
pub use Rattle.expr_grammar.proofs.Decided.{answer_ok, ok_answer, answer_err, err_answer, one_meaning, text_or_refusal, one_refusal, one_of_two}
pub use Rattle.expr_grammar.proofs.Sizes.{sized, bounded}
pub use Rattle.expr_grammar.proofs.Places.{keeps, bytes_keep}
pub use Rattle.expr_grammar.proofs.Ranges.{tree_ranged}
pub use Rattle.expr_grammar.proofs.SpelledTexts.{spelling_text}
pub use Rattle.expr_grammar.proofs.Bytes.{HasOneReading, HasReading, one_text, accepted_or_wrong, one_wrong, always_said}
