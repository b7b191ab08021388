-- The plan of two texts, put or tried, as the step of a line.
use Rattle.std.proofs.Common.{◌≡◌, ℕ, List, refl, subst, inr}
use Rattle.std.specs.Prelude.{Result, Ok, IfOk, OnErr, Err}
use Rattle.std.specs.declared.alloc.AllocError.{AllocError}
use Rattle.payroll_records.specs.declared.day.Day.{Day}
use Rattle.pap_types.specs.Meaning.{bound_of}
use Rattle.pap_plan.specs.AcceptanceClauses.{IsAcceptedAs}
use Rattle.pap_plan.specs.Plans.{Seen, flowchart, meaning}
use Rattle.book_year.specs.Accepted.{accepted}
use Rattle.recalc_engine.specs.EditAnswers as edits
use Rattle.plan_answers.specs.Answers.{Answer}
use Rattle.plan_answers.specs.Lines.{bound_line}
use Rattle.script_steps.specs.declared.reply.LineReply.{LineReply}
use Rattle.script_steps.specs.private.Replies.{reply_of}
use Rattle.plan_answers.proofs.Laws.{if_ok_map, on_err_map, refused_is, refusal_steps}
use Rattle.script_steps.specs.declared.plan.Judged.TheVariants.{Refused}
use Rattle.script_steps.specs.Standings.{Standing, StaysOrSteps}
use Rattle.script_steps.specs.LineSteps.{IsEditStep, IsPut, IsTextsStep, IsTrialStep, PlanUse}
use Rattle.script_steps.specs.private.PlanViews.{IsJudged}
use Rattle.script_steps.specs.private.StepViews.{IsMade, IsLost, IsWant}
use Rattle.script_steps.proofs.MadeLemmas.{made_map, made_still, lost_map, stays_map, want_map}

module _ (from : Standing) (day : Day) (plan limits : List ℕ) where
  -- the plan is refused, whatever is done with one that is accepted
  pub refused : (Use : PlanUse) (steps : ℕ) (reply : LineReply) → IsJudged plan limits (Refused reply)
      → IsMade (IsTextsStep Use from day plan limits) from steps steps (reply_of reply)
  refused Use steps reply j =
      let a = reply_of reply in
      made_still (IsTextsStep Use from day plan limits) from steps a
      (record { verdict = Err j.0; says = refused_is plan limits j.0 a j.1 j.2; is = (refl, j.2) })
      (refusal_steps plan j.0 a j.2)

  module _ (p : Seen) (bound : List ℕ) (h : IsAcceptedAs plan limits p)
      (says : bound ≡ bound_line (bound_of (flowchart p))) where
    -- what is done with the plan is done with that of the texts
    used : (Use : PlanUse) (to : Standing) (a : Answer) → Use from (day, accepted p) to a
        → IsTextsStep Use from day plan limits to a
    used Use to a is =
        let first = subst (λ x. Use from (day, record { plan = x; limits = p.limits; meaning = meaning p }) to a)
        h.plan_bytes is in
        record {
          verdict = Ok (meaning p);
          says = h.accepted;
          is = subst (λ y. Use from (day, record { plan = plan; limits = y; meaning = meaning p }) to a)
              h.limits_bytes first;
        }

    module _ (before now : ℕ) where
      -- the plan was put, or not
      put : (to : Standing) (a : Answer) → IsEditStep bound from (edits.put (day, accepted p)) to a
          → IsTextsStep IsPut from day plan limits to a
      put to a is = used IsPut to a (subst (λ t. IsEditStep t from (edits.put (day, accepted p)) to a) says is)

      abbrev Puts : Standing → Answer → Type 0
      Puts = IsEditStep bound from (edits.put (day, accepted p))

      pub put_made : (to : Standing) (reply : Result LineReply AllocError)
          → IfOk reply (λ r. IsMade Puts to before now (reply_of r))
          → IfOk reply (λ r. IsMade (IsTextsStep IsPut from day plan limits) to before now (reply_of r))
      put_made to reply =
          if_ok_map reply _ _
          (λ r. made_map Puts (IsTextsStep IsPut from day plan limits) to before now (reply_of r) put)

      pub put_lost : (reply : Result LineReply AllocError) → OnErr reply (IsLost Puts before now)
          → OnErr reply (IsWant (IsTextsStep IsPut from day plan limits) before now)
      put_lost reply =
          on_err_map reply _ _
          (λ l. inr (lost_map Puts (IsTextsStep IsPut from day plan limits) before now put l))

      pub put_left : (to : Standing) (reply : Result LineReply AllocError) → OnErr reply (StaysOrSteps Puts from to)
          → OnErr reply (StaysOrSteps (IsTextsStep IsPut from day plan limits) from to)
      put_left to reply =
          on_err_map reply _ _ (stays_map Puts (IsTextsStep IsPut from day plan limits) from to put)

      -- the plan was tried, or not
      abbrev Tries : Standing → Answer → Type 0
      Tries = IsTrialStep from (day, accepted p)

      pub tried_made : (to : Standing) (reply : Result LineReply AllocError)
          → IfOk reply (λ r. IsMade Tries to before now (reply_of r))
          → IfOk reply (λ r. IsMade (IsTextsStep IsTrialStep from day plan limits) to before now (reply_of r))
      tried_made to reply =
          if_ok_map reply _ _
          (λ r. made_map Tries (IsTextsStep IsTrialStep from day plan limits) to before now (reply_of r)
          (used IsTrialStep))

      pub tried_lost : (reply : Result LineReply AllocError) → OnErr reply (IsWant Tries before now)
          → OnErr reply (IsWant (IsTextsStep IsTrialStep from day plan limits) before now)
      tried_lost reply =
          on_err_map reply _ _
          (want_map Tries (IsTextsStep IsTrialStep from day plan limits) before now (used IsTrialStep))
