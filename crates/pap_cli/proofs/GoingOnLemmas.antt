-- A script that opens a saved book goes on as the script whose book was saved.
use Rattle.std.proofs.Common.{◌≡◌, ℕ, List, [], ◌∷◌, ◌++◌, Bool, true, false, ◌||◌, refl, sym, ap, ◌∙◌, subst}
use Rattle.std.specs.Prelude.{All, Option, Some, None, IsSome, is_some, Result, Ok, Err}
use Rattle.std.specs.List.{AllByRecursion}
use Rattle.std.proofs.lemmas.List.{append-nil}
use Rattle.std.proofs.lemmas.List.Elements.{All-head, All-tail}
use Rattle.outside.specs.Told.{FileMap}
use Rattle.payroll_records.specs.declared.month.Month.{Month}
use Rattle.correction_ledger.specs.Filings.{Filings}
use Rattle.recalc_engine.specs.Contents.{Contents}
use Rattle.book_file.specs.BookLaws.{BooksAreSavedOneWay}
use Rattle.book_file.specs.Saving.{SaveSays}
use Rattle.book_file.specs.declared.refusal.SaveRefusal.{SaveRefusal}
use Rattle.book_file.specs.declared.refusal.SaveRefusal.TheVariants as unsaved
use Rattle.script_steps.specs.GoingOn.{AreSameFor, IsCut, opened}
use Rattle.script_steps.specs.Standings.{with_book}
use Rattle.script_steps.specs.Steps.{Standing, AreThere, first_standing}
use Rattle.script_steps.proofs.Laws.{GoAlike, cut_opens, go_alike, not_filed, steps_over}
use Rattle.script_run.specs.private.RunViews.{Follow, with_answer}
use Rattle.script_run.specs.private.RunViews.{empty_session as beginning}
use Rattle.script_run.specs.Transcripts.{IsHalted, Session, lines_of}
use Rattle.script_run.proofs.Laws.{FollowToHalt, FollowToHalt-one, FollowToHalt-rest, HasAnswered, HasSteps}
use Rattle.script_run.proofs.Laws.{any_refused, has_answered, has_steps, no_refusals, one, refusals, texts, totals_of_session}
use Rattle.pap_cli.specs.GoingOn.{GoOnAlike, IsTakenUp, SavedScriptsAreSaved, SavedScriptsGoOn}
use Rattle.pap_cli.proofs.SaveLawLemmas.{same_save}
use Rattle.pap_cli.specs.SaveAnswers.{IsSave, IsVerdict, Written, was_filed}

-- ---- a script whose files are there is answered to its end

there_behind : (files : FileMap) (before : List (List ℕ)) (line : List ℕ) (later : List (List ℕ))
    → All (λ line. AreThere files line) (before ++ line ∷ later) → AreThere files line
there_behind files [] line later h = All-head (λ line. AreThere files line) line later h
there_behind files (b ∷ before) line later h =
    there_behind files before line later (All-tail (λ line. AreThere files line) b (before ++ line ∷ later) h)

all_answered : (files : FileMap) (from to : Session) (lines : List (List ℕ)) → All (λ line. AreThere files line) lines
    → FollowToHalt files from lines to → Follow files from lines to
all_answered files from to lines there s = by s.after s.parts s.halted
  where
    by : (after : List (List ℕ)) → lines ≡ s.before ++ after → IsHalted files after → Follow files from lines to
    by [] parts halted =
        subst (λ ls. Follow files from ls to) (sym (parts ∙ append-nil s.before)) s.answered
    by (line ∷ after) parts halted =
        absurd (halted (there_behind files s.before line after (subst (All (λ line. AreThere files line)) parts there)))

-- ---- what was saved

-- no month was filed, and this is what is saved of the book
record IsBookText (standing : Standing) (refused : Bool) (text : List ℕ) : Type 0 where
  accepted : refused ≡ false
  unfiled : standing.filings.last ≡ None
  says : SaveSays standing.book (Ok text)

none_filed : (o : Option Month) → is_some o ≡ false → o ≡ None
none_filed None e = refl
none_filed (Some m) e = cc

verdict_text : (book : Contents) (w : Written) (v : Result (List ℕ) SaveRefusal) → SaveSays book v → IsVerdict v w
    → w.refused ≡ false → SaveSays book (Ok w.text)
verdict_text book w (Ok text) says is e =
    subst (λ t. SaveSays book (Ok t)) (sym (ap (λ (w : Written). w.text) is)) says
verdict_text book w (Err unsaved.Long) says is e = absurd (cc (sym (ap (λ (w : Written). w.refused) is) ∙ e))
verdict_text book w (Err (unsaved.Memory x)) says is e = absurd says

book_text_of : (refused : Bool) (standing : Standing) (refusals : List ℕ) (w : Written) (filed : Bool)
    → was_filed standing ≡ filed → IsSave refused filed refusals standing.book w → w.refused ≡ false
    → IsBookText standing refused w.text
book_text_of true standing refusals w filed same h e = absurd (cc (sym (ap (λ (w : Written). w.refused) h) ∙ e))
book_text_of false standing refusals w true same h e = absurd (cc (sym (ap (λ (w : Written). w.refused) h) ∙ e))
book_text_of false standing refusals w false same h e = record {
  accepted = refl;
  unfiled = none_filed standing.filings.last same;
  says = verdict_text standing.book w h.verdict h.says h.is e;
}

-- ---- the two scripts

same_there : (files later : FileMap) (lines : List (List ℕ)) → AllByRecursion (AreSameFor files later) lines
    → IsHalted files lines → IsHalted later lines
same_there files later [] same h = tt
same_there files later (line ∷ lines) same h =
    λ there. h (λ name names. subst (λ o. IsSome o) (sym (same.0 name names)) (there name names))

all_front : (P : List ℕ → Type 0) (xs ys : List (List ℕ)) → AllByRecursion P (xs ++ ys) → AllByRecursion P xs
all_front P [] ys h = tt
all_front P (x ∷ xs) ys h = (h.0, all_front P xs ys h.1)

all_back : (P : List ℕ → Type 0) (xs ys : List (List ℕ)) → AllByRecursion P (xs ++ ys) → AllByRecursion P ys
all_back P [] ys h = h
all_back P (x ∷ xs) ys h = all_back P xs ys h.1

module _ (files later : FileMap) (script opening : List ℕ) (up : IsTakenUp files later script opening) where
  abbrev saved_session : Session
  saved_session = up.saved.session

  abbrev left : Standing
  left = saved_session.standing

  first_answered : Follow files beginning (lines_of script) saved_session
  first_answered =
      all_answered files beginning saved_session (lines_of script) up.saved.there
      (totals_of_session files (lines_of script) saved_session up.saved.is)

  first_steps : HasSteps files beginning (lines_of script) saved_session
  first_steps = has_steps files beginning (lines_of script) saved_session first_answered

  book_text : IsBookText left saved_session.refused up.answer.text
  book_text = book_text_of saved_session.refused left saved_session.refusals
      (record { text = up.answer.text; refused = up.answer.refused }) (was_filed left) refl up.saved.save up.accepted

  cut : IsCut files later (lines_of script) first_steps.answers opening
  cut = record {
    left = left;
    answered = first_steps.steps;
    unfiled = book_text.unfiled;
    text = up.answer.text;
    saved = book_text.says;
    file = up.file;
    there = up.there;
    opens = up.opens;
  }

  unfiled : first_standing.filings ≡ left.filings
  unfiled = not_filed files (lines_of script) first_steps.answers left first_steps.steps book_text.unfiled

  -- no answer was a refusal
  none_kept : saved_session.refusals ≡ []
  none_kept =
      let none = no_refusals first_steps.answers (sym first_steps.goes.refused ∙ book_text.accepted) in
      first_steps.goes.kept ∙ none

  -- behind the line that opens the book
  abbrev begun : Session
  begun = with_answer beginning (opened left.book) (with_book first_standing left.book)

  opening_answered : Follow later beginning (opening ∷ []) begun
  unfolding cut
  opening_answered = (
    with_book first_standing left.book,
    opened left.book,
    cut_opens files later (lines_of script) first_steps.answers opening cut,
    refl,
  )

  module _ (further : List (List ℕ)) (same : AllByRecursion (AreSameFor files later) further) (whole next : Session)
      (long : FollowToHalt files saved_session further whole) (short : FollowToHalt later begun further next) where
    answered_there : HasSteps files saved_session long.before whole
    answered_there = has_steps files saved_session long.before whole long.answered

    -- the same lines from the book that was opened, over the files of then
    gone_on : GoAlike files (with_book first_standing left.book) long.before whole.standing answered_there.answers
    gone_on = go_alike files left (with_book first_standing left.book) whole.standing long.before answered_there.answers
        (record { book = refl; filings = sym unfiled }) answered_there.steps

    answered_later : HasAnswered later begun long.before gone_on.left answered_there.answers
    answered_later = has_answered later begun long.before gone_on.left answered_there.answers
        (steps_over files later long.before answered_there.answers (with_book first_standing left.book) gone_on.left
        (all_front (AreSameFor files later) long.before long.after (subst (AllByRecursion (AreSameFor files later)) long.parts same))
        gone_on.steps)

    later_session : FollowToHalt later begun further answered_later.session
    later_session = record {
      before = long.before;
      after = long.after;
      parts = long.parts;
      answered = answered_later.is;
      halted = same_there files later long.after
          (all_back (AreSameFor files later) long.before long.after (subst (AllByRecursion (AreSameFor files later)) long.parts same))
          long.halted;
    }

    is_next : answered_later.session ≡ next
    is_next = FollowToHalt-one later begun answered_later.session next further later_session short

    alike : GoOnAlike saved_session whole next
    alike = record {
      further = texts answered_there.answers;
      behind_first = answered_there.goes.text;
      behind_opening = sym (ap (λ (s : Session). s.text) is_next) ∙ answered_later.goes.text;
      refused = sym (ap (λ (s : Session). s.refused) is_next) ∙ answered_later.goes.refused
          ∙ sym (answered_there.goes.refused ∙ ap (λ b. b || any_refused answered_there.answers) book_text.accepted);
      refusals = sym (ap (λ (s : Session). s.refusals) is_next) ∙ answered_later.goes.kept
          ∙ sym (answered_there.goes.kept ∙ ap (λ t. t ++ refusals answered_there.answers) none_kept);
      book = sym (ap (λ (s : Session). s.standing.book) is_next) ∙ ap (λ (s : Standing). s.book) answered_later.left
          ∙ sym gone_on.alike.book;
      filings = sym (ap (λ (s : Session). s.standing.filings) is_next)
          ∙ ap (λ (s : Standing). s.filings) answered_later.left ∙ sym gone_on.alike.filings;
    }

pub go_on : SavedScriptsGoOn
go_on files later script opening long short first whole next two of_first of_whole of_next =
    let up = two.taken_up in
    let saved = up.saved.session in
    let behind = FollowToHalt-rest files beginning saved whole (lines_of script) two.further
    (first_answered files later script opening up)
    (subst (λ ls. FollowToHalt files beginning ls whole) two.long_lines
    (totals_of_session files (lines_of long) whole of_whole)) in
    let opened_then = FollowToHalt-rest later beginning (begun files later script opening up) next (opening ∷ []) two.further
    (opening_answered files later script opening up)
    (subst (λ ls. FollowToHalt later beginning ls next) two.short_lines
    (totals_of_session later (lines_of short) next of_next)) in
    subst (λ s. GoOnAlike s whole next) (one files script saved first up.saved.is of_first)
    (alike files later script opening up two.further two.same whole next behind opened_then)

-- ---- saved again

written_same : (a b : Written) → b ≡ a → (b.text ≡ a.text) × (b.refused ≡ a.refused)
written_same a b e = (ap (λ (w : Written). w.text) e, ap (λ (w : Written). w.refused) e)

pub saved_again : BooksAreSavedOneWay → SavedScriptsAreSaved
saved_again one_way files later script opening long short answer other two h k =
    let whole = h.session in
    let next = k.session in
    let on = go_on files later script opening long short two.taken_up.saved.session whole next two
    two.taken_up.saved.is h.is k.is in
    let was : Written = record { text = answer.text; refused = answer.refused } in
    let now : Written = record { text = other.text; refused = other.refused } in
    let first = subst (λ b. IsSave b (was_filed next.standing) next.refusals next.standing.book now) on.refused k.save in
    let second = subst (λ f. IsSave whole.refused f next.refusals next.standing.book now) (ap (λ (f : Filings). is_some f.last) on.filings) first in
    let third = subst (λ t. IsSave whole.refused (was_filed whole.standing) t next.standing.book now) on.refusals second in
    let last = subst (λ b. IsSave whole.refused (was_filed whole.standing) whole.refusals b now) on.book third in
    written_same was now (same_save one_way whole.refused (was_filed whole.standing) whole.refusals whole.standing.book now was last h.save)
