-- The answer on what is read of two files is that on their bytes, whatever the command asks for.
use Rattle.std.proofs.Common.{ℕ, ◌<◌, List, take, subst, arith}
use Rattle.std.specs.Prelude.{Result, Ok, Err}
use Rattle.pap_plan.specs.declared.refusal.PlanRefusal.{PlanRefusal}
use Rattle.pap_plan.specs.Acceptance.{Meaning, AcceptanceSays}
use Rattle.outside.specs.Told.{FileMap}
use Rattle.plan_answers.specs.Answers.{Answer}
use Rattle.plan_answers.specs.Fronts.{AreFronts}
use Rattle.plan_answers.proofs.Laws.{accepted_whole, answers_front, refusal_answer, check_front}
use Rattle.pap_cli.specs.declared.words.Command.{Command}
use Rattle.pap_cli.specs.declared.words.Command.TheVariants.{Check, Once}
use Rattle.pap_cli.specs.RunAnswers.{IsOnce}
use Rattle.pap_cli.specs.private.AnswerViews.{answers_of}
use Rattle.pap_cli.specs.FileClauses.{AnswersFiles}

module _ (n m : ℕ) (more_plan : 1048576 < n) (more_limits : 262144 < m) where
  command_front : (c : Command) (plan limits : List ℕ) (a : Answer) → answers_of c (take n plan) (take m limits) a → answers_of c plan limits a
  command_front Check plan limits a h = check_front n m more_plan more_limits plan limits a h
  command_front (Once values) plan limits a h = record {
    verdict = h.verdict;
    accepted = answers_front n m more_plan more_limits plan limits h.verdict h.accepted;
    is = once_front h.verdict h.accepted h.is;
  } where
    once_front : (v : Result Meaning PlanRefusal) → AcceptanceSays (take n plan) (take m limits) v → IsOnce values (take n plan) (take m limits) v a → IsOnce values plan limits v a
    once_front (Ok x) accepted k =
        let whole = accepted_whole n m more_plan more_limits plan limits x accepted in
        subst (λ l. IsOnce values plan l (Ok x) a) whole.1 (subst (λ p. IsOnce values p (take m limits) (Ok x) a) whole.0 k)
    once_front (Err r) accepted k = refusal_answer n m more_plan more_limits plan r a k

-- the answer on what is read of two files that are there
pub answers_both : (c : Command) (plan limits front front' : List ℕ) (files : FileMap) (a : Answer) → AreFronts files plan limits front front' → answers_of c front front' a → AnswersFiles (answers_of c) plan limits files a
answers_both c plan limits front front' files a r h = record {
  plan_bytes = r.plan_bytes;
  limits_bytes = r.limits_bytes;
  plan_there = r.plan_there;
  limits_there = r.limits_there;
  answers = command_front 1048577 262145 (omega arith) (omega arith) c r.plan_bytes r.limits_bytes a
      (subst (λ b. answers_of c b (take 262145 r.limits_bytes) a) r.plan_read (subst (λ b. answers_of c front b a) r.limits_read h));
}
