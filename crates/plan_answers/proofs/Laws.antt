-- The laws that other crates may cite.
-- A refusal that is answered has one detail, and every two texts have one answer of `check`.
pub use Rattle.plan_answers.proofs.AnswerLemmas.{one_detail, some_detail, one_refusal, some_refusal, check_answers}
-- The refusal of two texts is one of their plan.
pub use Rattle.plan_answers.proofs.AnswerLemmas.{its_plan}
-- The answer on what is read of two files is that on their bytes.
pub use Rattle.plan_answers.proofs.FrontLemmas.{whole, longer, front_there, answers_front, accepted_whole, refusal_answer, check_front}
-- Results of which more is said; a refusal that is written isn't want of memory, and has no steps.
pub use Rattle.plan_answers.proofs.ReplyLemmas.{if_ok_map, on_err_any, on_err_map, refused_is, refusal_steps}
-- A text that was appended to a text.
pub use Rattle.plan_answers.proofs.LineLemmas.{text_more}
