-- The laws of acceptance, for crates above.
-- Every two texts have an answer and no other.
pub use Rattle.pap_plan.proofs.AnswerLaws.{some, one}
-- Accepted plans never fail on admitted inputs, their bounds are small, and their ranges are those of the outputs by name.
pub use Rattle.pap_plan.proofs.AcceptedLaws.{never_fail, accepted_safe, small_bounds, ranges_named}
-- Of accepted texts: the limits of the inputs, kept defaults.
pub use Rattle.pap_plan.proofs.MeaningLemmas.{accepted_limits, accepted_defaults}
pub use Rattle.pap_plan.proofs.LiteralLemmas.{HasKeptValue}
-- The inputs in declared order are there where each has a limit, and they are determined.
pub use Rattle.pap_plan.proofs.MeaningLemmas.{some_slots, one_slots}
-- A plan that is read is within the counts of plans, and each of its literals is a number of its type.
pub use Rattle.pap_plan.proofs.CountLemmas.{counted}
pub use Rattle.pap_plan.proofs.HeldLemmas.{plan_held}
-- A refusal that isn't want of memory, and one where memory may have run out.
pub use Rattle.pap_plan.proofs.JudgementLemmas.{is_refused, refused_or}
-- Where its ranges are judged, nothing is refused where it is read, nothing outright, and what is refused is refused by a row.
pub use Rattle.pap_plan.proofs.AcceptedLaws.{judged_read, ordered_walked, judged_rows}
