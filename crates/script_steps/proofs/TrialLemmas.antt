-- A trial of a plan, as the step of a line.
use Rattle.std.proofs.Common.{◌≡◌, ℕ, ◌+◌, List, ◌++◌, refl, sym, ap, ◌∙◌, subst, arith, inl, inr}
use Rattle.std.specs.Prelude.{Result, Ok, Err, IfOk, IfErr, OnErr}
use Rattle.std.specs.declared.alloc.AllocError.{AllocError}
use Rattle.plan_calendar.specs.Picking.{Entry}
use Rattle.book_year.specs.Accepted.{Accepted}
use Rattle.book_year.specs.declared.outcome.Work.{Work}
use Rattle.book_edits.specs.declared.refusal.EditRefusal.TheVariants as refusals
use Rattle.recalc_engine.specs.Contents.{Contents}
use Rattle.recalc_engine.specs.EditAnswers as edits
use Rattle.recalc_engine.specs.EditAnswers.{CanEdit, edited_book}
use Rattle.correction_ledger.specs.Filings.{Filings}
use Rattle.what_if.specs.Trials.{CountsTry, IsTryRefused, trial_of}
use Rattle.what_if.specs.declared.trial.Trial.{Trial}
use Rattle.what_if.specs.declared.trial.TryRefusal.{TryRefusal}
use Rattle.what_if.specs.declared.trial.TryRefusal.TheVariants as trying
use Rattle.plan_answers.specs.Answers.{Answer, refusal}
use Rattle.script_steps.specs.declared.reply.LineReply.{LineReply}
use Rattle.script_steps.specs.private.Replies.{reply_of}
use Rattle.plan_answers.proofs.Laws.{if_ok_map, on_err_any}
use Rattle.script_steps.specs.LineSteps.{IsTrialStep, bound_text, trial_answer}
use Rattle.script_steps.specs.LineTexts.{edit_detail, trial_text}
use Rattle.script_steps.specs.Standings.{Standing, answered}
use Rattle.script_steps.specs.private.StepViews.{IsMade, IsTrialReply, IsWant}
use Rattle.script_steps.proofs.EditLemmas.{standing}

module _ (from : Standing) (e : Entry Accepted) (bound : List ℕ) (says : bound ≡ bound_text e) (before now : ℕ) where
  abbrev total : ℕ
  total = (trial_of from.book e).work.steps

  tried : CanEdit from.book (edits.put e)
      → IsTrialStep from e from (trial_answer from.book e (Ok (edited_book (edits.put e) from.book)))
  tried can = record { verdict = Ok (edited_book (edits.put e) from.book); says = (can, refl); is = (refl, refl) }

  reply_made : (verdict : Result Trial TryRefusal) (answer : Answer) → IfOk verdict (λ t. t ≡ trial_of from.book e)
      → IfOk verdict (λ _. CanEdit from.book (edits.put e)) → IfErr verdict (IsTryRefused from.book e)
      → CountsTry verdict before now total → IsTrialReply bound verdict answer
      → IsMade (IsTrialStep from e) from before now answer
  reply_made (Ok t) answer ok can barred counts is =
      let told = is ∙ ap (λ x. answered (bound ++ trial_text x) x.work.steps) ok
      ∙ ap (λ b. answered (b ++ trial_text (trial_of from.book e)) total) says in
      record {
        is = record { verdict = Ok (edited_book (edits.put e) from.book); says = (can, refl); is = (refl, told) };
        counted = counts ∙ ap (λ n. before + n) (sym (ap (λ (a : Answer). a.steps) told));
      }
  reply_made (Err trying.Plans) answer ok can barred counts is =
      unchanged (record { verdict = Err refusals.Plans; says = barred; is = (refl, is) }) is counts
    where
      unchanged : IsTrialStep from e from answer → answer ≡ refusal (edit_detail refusals.Plans) → now ≡ before
          → IsMade (IsTrialStep from e) from before now answer
      unchanged step is still =
          let none : answer.steps ≡ 0 = ap (λ (a : Answer). a.steps) is in
          record { is = step; counted = omega (arith, none, still) }
  reply_made (Err (trying.Memory x)) answer ok can barred counts is = absurd is

  -- where memory ran out at the trial or after it
  lost : (verdict : Result Trial TryRefusal) → IfOk verdict (λ _. CanEdit from.book (edits.put e))
      → IfErr verdict (IsTryRefused from.book e) → CountsTry verdict before now total
      → IsWant (IsTrialStep from e) before now
  lost (Ok t) can barred counts = inr (record {
    to = from;
    answer = trial_answer from.book e (Ok (edited_book (edits.put e) from.book));
    is = tried can;
    later = omega (arith, counts);
    within = omega (arith, counts);
  })
  lost (Err trying.Plans) can barred counts = inl counts
  lost (Err (trying.Memory x)) can barred counts = inr (record {
    to = from;
    answer = trial_answer from.book e (Ok (edited_book (edits.put e) from.book));
    is = tried barred;
    later = counts.0;
    within = counts.1;
  })

-- a trial over the book of a standing
module _ (from : Standing) (filings : Filings) (made : Work) (book : Contents) (same : standing filings made book ≡ from)
    (e : Entry Accepted) (before now : ℕ) (verdict : Result Trial TryRefusal) (reply : Result LineReply AllocError)
    (can : IfOk verdict (λ _. CanEdit book (edits.put e))) (barred : IfErr verdict (IsTryRefused book e))
    (counts : CountsTry verdict before now (trial_of book e).work.steps) where
  pub trial_made : (bound : List ℕ) → bound ≡ bound_text e → IfOk verdict (λ t. t ≡ trial_of book e)
      → IfOk reply (λ r. IsTrialReply bound verdict (reply_of r))
      → IfOk reply (λ r. IsMade (IsTrialStep from e) from before now (reply_of r))
  trial_made bound says ok =
      if_ok_map reply _ _
      (λ r is. subst (λ s. IsMade (IsTrialStep s e) s before now (reply_of r)) same
      (reply_made (standing filings made book) e bound says before now verdict (reply_of r) ok can barred counts is))

  pub trial_lost : OnErr reply (IsWant (IsTrialStep from e) before now)
  trial_lost =
      subst (λ s. OnErr reply (IsWant (IsTrialStep s e) before now)) same
      (on_err_any reply _ (lost (standing filings made book) e (bound_text e) refl before now verdict can barred counts))
