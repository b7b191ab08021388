-- An edit that the book has made or refused, as the step of a line.
use Rattle.std.proofs.Common.{◌≡◌, ℕ, ◌+◌, List, refl, sym, ap, ◌∙◌, subst, arith, inl, inr}
use Rattle.std.specs.Prelude.{Result, Ok, Err, IfOk, OnErr}
use Rattle.std.specs.declared.alloc.AllocError.{AllocError}
use Rattle.book_year.specs.declared.outcome.Work.{Work}
use Rattle.book_edits.specs.declared.refusal.EditRefusal.{EditRefusal}
use Rattle.book_edits.specs.declared.refusal.EditRefusal.TheVariants as refusals
use Rattle.book_edits.specs.Refusals.{CountsEdit}
use Rattle.recalc_engine.specs.Contents.{Contents, cost_between}
use Rattle.recalc_engine.specs.EditAnswers.{Edit, EditAnswers, IsEdited, edited_book}
use Rattle.correction_ledger.specs.Filings.{Filings}
use Rattle.plan_answers.specs.Answers.{Answer, refusal}
use Rattle.script_steps.specs.declared.reply.LineReply.{LineReply}
use Rattle.script_steps.specs.private.Replies.{reply_of}
use Rattle.plan_answers.proofs.Laws.{if_ok_map, on_err_any}
use Rattle.script_steps.specs.LineTexts.{edit_detail}
use Rattle.script_steps.specs.Standings.{Standing, StaysOrSteps, answered, after_edit, more_work}
use Rattle.script_steps.specs.LineSteps.{IsEditStep}
use Rattle.script_steps.specs.private.StepViews.{IsMade, IsLost, IsEditReply, work_behind}

-- a refusal that isn't want of memory
refused_step : (text : List ℕ) (from : Standing) (e : Edit) (why : EditRefusal) (answer : Answer)
    → EditAnswers from.book e (Err why) → answer ≡ refusal (edit_detail why) → IsEditStep text from e from answer
refused_step text from e why answer h is = record { verdict = Err why; says = h; is = (refl, is) }

-- the steps of the work of an edit are the cost, and its line is answered
module _ (text : List ℕ) (from : Standing) (e : Edit) (book : Contents) where
  steps_are : (work : Work) → IsEdited from.book e book (Ok work)
      → cost_between from.book (edited_book e from.book) ≡ work.steps
  steps_are work h = sym (ap (λ (w : Work). w.steps) h.1 ∙ ap (λ (b : Contents). b.last.steps) h.0.1)

  made_step : (work : Work) → IsEdited from.book e book (Ok work)
      → IsEditStep text from e (after_edit from book) (answered text work.steps)
  made_step work h = record { verdict = Ok book; says = h.0; is = (refl, ap (λ (w : Work). answered text w.steps) h.1) }

-- what is left of an edit, with the work of all edits
module _ (text : List ℕ) (from : Standing) (e : Edit) (book : Contents) (total : Work) (before now : ℕ) where
  abbrev left : Standing
  left = record { book = book; filings = from.filings; made = total }

  same_left : book ≡ from.book → total ≡ from.made → from ≡ left
  same_left b t i = record { book = sym b i; filings = from.filings; made = sym t i }

  after_left : (work : Work) → work ≡ book.last → total ≡ more_work from.made work → after_edit from book ≡ left
  after_left work w t i = record {
    book = book;
    filings = from.filings;
    made = sym (t ∙ ap (more_work from.made) w) i;
  }

  refused_made : (why : EditRefusal) (answer : Answer) → EditAnswers from.book e (Err why) → book ≡ from.book
      → now ≡ before → answer ≡ refusal (edit_detail why) → total ≡ from.made
      → IsMade (IsEditStep text from e) left before now answer
  refused_made why answer h same still is t = record {
    is = subst (λ s. IsEditStep text from e s answer) (same_left same t) (refused_step text from e why answer h is);
    counted = let none : answer.steps ≡ 0 = ap (λ (a : Answer). a.steps) is in omega (arith, none, still);
  }

  -- the reply to an edit is its step's answer
  reply_made : (made : Result Work EditRefusal) (answer : Answer) → IsEdited from.book e book made
      → CountsEdit made before now (cost_between from.book (edited_book e from.book))
      → total ≡ work_behind from.made made → IsEditReply text made answer
      → IsMade (IsEditStep text from e) left before now answer
  reply_made (Ok work) answer h counts t is = record {
    is = subst (λ s. IsEditStep text from e s answer) (after_left work h.1 t)
        (subst (λ a. IsEditStep text from e (after_edit from book) a) (sym is) (made_step text from e book work h));
    counted = counts
        ∙ ap (λ n. before + n) (steps_are text from e book work h ∙ sym (ap (λ (a : Answer). a.steps) is));
  }
  reply_made (Err (refusals.Memory x)) answer h counts t is = absurd is
  reply_made (Err (refusals.Present k)) answer h counts t is =
      refused_made (refusals.Present k) answer h.0 h.1 counts is t
  reply_made (Err (refusals.Absent f w)) answer h counts t is =
      refused_made (refusals.Absent f w) answer h.0 h.1 counts is t
  reply_made (Err (refusals.Several f m)) answer h counts t is =
      refused_made (refusals.Several f m) answer h.0 h.1 counts is t
  reply_made (Err refusals.Records) answer h counts t is =
      refused_made refusals.Records answer h.0 h.1 counts is t
  reply_made (Err refusals.Plans) answer h counts t is = refused_made refusals.Plans answer h.0 h.1 counts is t
  reply_made (Err (refusals.NoPlanThere d)) answer h counts t is =
      refused_made (refusals.NoPlanThere d) answer h.0 h.1 counts is t

  reply_all : (made : Result Work EditRefusal) (reply : Result LineReply AllocError) → IsEdited from.book e book made
      → CountsEdit made before now (cost_between from.book (edited_book e from.book))
      → total ≡ work_behind from.made made → IfOk reply (λ r. IsEditReply text made (reply_of r))
      → IfOk reply (λ r. IsMade (IsEditStep text from e) left before now (reply_of r))
  reply_all made reply h counts t = if_ok_map reply _ _ (λ r is. reply_made made (reply_of r) h counts t is)

  -- what is left, whether it is answered or not
  left_so : (made : Result Work EditRefusal) → IsEdited from.book e book made → OnErr made (book ≡ from.book)
      → total ≡ work_behind from.made made → StaysOrSteps (IsEditStep text from e) from left
  left_so (Ok work) h stays t =
      inr (
        answered text work.steps,
        subst (λ s. IsEditStep text from e s (answered text work.steps))
            (after_left work h.1 t) (made_step text from e book work h),
      )
  left_so (Err why) h stays t = inl (sym (same_left stays t))

-- an edit of which no answer was made
module _ (text : List ℕ) (from : Standing) (e : Edit) (book : Contents) (before now : ℕ) where
  refused_lost : (why : EditRefusal) → EditAnswers from.book e (Err why) → now ≡ before
      → IsLost (IsEditStep text from e) before now
  refused_lost why h still = record {
    to = from;
    answer = refusal (edit_detail why);
    is = refused_step text from e why (refusal (edit_detail why)) h refl;
    later = omega (arith, still);
    within = omega (arith, still);
  }

  -- where memory ran out at the edit or after it
  made_lost : (made : Result Work EditRefusal) → IsEdited from.book e book made
      → CountsEdit made before now (cost_between from.book (edited_book e from.book))
      → IsLost (IsEditStep text from e) before now
  made_lost (Ok work) h counts =
      let is = counts ∙ ap (λ n. before + n) (steps_are text from e book work h) in
      record {
        to = after_edit from book;
        answer = answered text work.steps;
        is = made_step text from e book work h;
        later = omega (arith, is);
        within = omega (arith, is);
      }
  made_lost (Err (refusals.Memory x)) h counts = record {
    to = after_edit from (edited_book e from.book);
    answer = answered text (cost_between from.book (edited_book e from.book));
    is = record { verdict = Ok (edited_book e from.book); says = h.0; is = (refl, refl) };
    later = counts.0;
    within = counts.1;
  }
  made_lost (Err (refusals.Present k)) h counts = refused_lost (refusals.Present k) h.0 counts
  made_lost (Err (refusals.Absent f w)) h counts = refused_lost (refusals.Absent f w) h.0 counts
  made_lost (Err (refusals.Several f m)) h counts = refused_lost (refusals.Several f m) h.0 counts
  made_lost (Err refusals.Records) h counts = refused_lost refusals.Records h.0 counts
  made_lost (Err refusals.Plans) h counts = refused_lost refusals.Plans h.0 counts
  made_lost (Err (refusals.NoPlanThere d)) h counts = refused_lost (refusals.NoPlanThere d) h.0 counts

-- a book as a standing, with what was filed and the work of all edits
abbrev pub standing : Filings → Work → Contents → Standing
standing filings made b = record { book = b; filings = filings; made = made }

-- an edit of the book of a standing
module _ (text : List ℕ) (from : Standing) (e : Edit) (filings : Filings) (total : Work) (old : Contents)
    (same : standing filings total old ≡ from) (book : Contents) (before now : ℕ) (made : Result Work EditRefusal)
    (reply : Result LineReply AllocError) (h : IsEdited old e book made)
    (counts : CountsEdit made before now (cost_between old (edited_book e old))) where
  pub edit_made : (after : Work) → after ≡ work_behind total made → IfOk reply (λ r. IsEditReply text made (reply_of r))
      → IfOk reply (λ r. IsMade (IsEditStep text from e) (standing filings after book) before now (reply_of r))
  edit_made after t is =
      let left = standing filings after book in
      subst (λ s. IfOk reply (λ r. IsMade (IsEditStep text s e) left before now (reply_of r))) same
      (reply_all text (standing filings total old) e book after before now made reply h counts t is)

  pub edit_lost : OnErr reply (IsLost (IsEditStep text from e) before now)
  edit_lost =
      subst (λ s. OnErr reply (IsLost (IsEditStep text s e) before now)) same
      (on_err_any reply _ (made_lost text (standing filings total old) e book before now made h counts))

-- what an edit of the book of a standing leaves, where its answer isn't made
pub edit_left : (text : List ℕ) (from : Standing) (e : Edit) (filings : Filings) (total : Work) (old : Contents)
    → standing filings total old ≡ from → (book : Contents) (made : Result Work EditRefusal)
    (reply : Result LineReply AllocError) → IsEdited old e book made → OnErr made (book ≡ old)
    → (after : Work) → after ≡ work_behind total made
    → OnErr reply (StaysOrSteps (IsEditStep text from e) from (standing filings after book))
edit_left text from e filings total old same book made reply h stays after t =
    let left = standing filings after book in
    on_err_any reply _
    (subst (λ s. StaysOrSteps (IsEditStep text s e) s left) same
    (left_so text (standing filings total old) e book after 0 0 made h stays t))
