-- The text of a saved book, opened, as the step of a line.
use Rattle.std.proofs.Common.{◌≡◌, ◌⊎◌, ℕ, zero, suc, ◌+◌, ◌<◌, ◌≤◌, List, [], ◌∷◌, take, refl, sym, ap, ◌∙◌, subst, arith}
use Rattle.std.proofs.Common.{inl, inr}
use Rattle.std.specs.Prelude.{◌≢◌, ◌↔◌, Bool, IsTrue, IsSome, Option, Some, None, Result, Ok, Err, IfOk}
use Rattle.std.specs.declared.alloc.AllocError.{AllocError}
use Rattle.payroll_records.specs.declared.month.Month.{Month}
use Rattle.plan_calendar.specs.Picking.{Entry}
use Rattle.pap_plan.specs.Plans.{Seen}
use Rattle.book_year.specs.Accepted.{Accepted, plans_in}
use Rattle.book_year.specs.declared.outcome.Work.{Work}
use Rattle.book_edits.specs.Books.{run_count}
use Rattle.recalc_engine.specs.Contents.{Contents, whole_cost, whole_work}
use Rattle.book_file.specs.BookSays.{BookSays}
use Rattle.book_file.specs.Clauses.{CountsRead, IsBookFaultOrMemory, said_cost}
use Rattle.book_file.specs.declared.refusal.BookFault.{BookFault}
use Rattle.book_file.specs.declared.refusal.BookFault.TheVariants as books
use Rattle.book_file.proofs.Laws as texts
use Rattle.plan_answers.specs.Answers.{Answer, refusal}
use Rattle.script_steps.specs.declared.reply.LineReply.{LineReply}
use Rattle.script_steps.specs.private.Replies.{reply_of}
use Rattle.plan_answers.proofs.Laws.{if_ok_map}
use Rattle.script_steps.specs.LineTexts.{book_detail, ok_line}
use Rattle.script_steps.specs.OpenSteps.{IsEmpty, IsFresh, IsOpenStep, IsOpened, OpenRefusal, OpenSays, open_detail}
use Rattle.script_steps.specs.OpenSteps.{not_empty, filed, faulty}
use Rattle.script_steps.specs.Standings.{Standing, StaysOrSteps, answered, with_book}
use Rattle.script_steps.specs.private.StepViews.{IsBookRefusal, IsMade, IsWant}
use Rattle.script_steps.proofs.KindLemmas.{Has, Same, stays_one}
use Rattle.script_steps.proofs.MadeLemmas.{made_still}

-- ---- an empty book

pub some_there : {T : Type 0} (o : Option T) → IsSome o → o ≢ None
some_there None some e = cc
some_there (Some x) some e = cc

accepted_none : (ps : List (Entry Seen)) → plans_in ps ≡ [] → ps ≡ []
accepted_none [] e = refl
accepted_none (p ∷ ps) e = cc

module _ (book : Contents) (count : ℕ) (counted : count ≡ run_count book.years) where
  pub empty_by_plans : count ≡ 0 → (ps : List (Entry Seen)) → plans_in ps ≡ book.plans → (r : Bool) → IsTrue r ↔ (ps ≡ [])
      → IsTrue r ↔ IsEmpty book
  empty_by_plans zero_is ps plans r is = (
    λ t. record { runs = sym counted ∙ zero_is; plans = sym plans ∙ ap plans_in (is.0 t) },
    λ h. is.1 (accepted_none ps (plans ∙ h.plans)),
  )

empty_or_not : (book : Contents) → IsEmpty book ⊎ (IsEmpty book → ⊥)
empty_or_not book = by (run_count book.years) refl book.plans refl
  where
    by : (n : ℕ) → run_count book.years ≡ n → (plans : List (Entry Accepted)) → book.plans ≡ plans
        → IsEmpty book ⊎ (IsEmpty book → ⊥)
    by zero e [] p = inl (record { runs = e; plans = p })
    by zero e (q ∷ qs) p = inr (λ h. let none = h.plans in cc)
    by (suc n) e plans p = inr (λ h. let none = h.runs in absurd (omega (arith, e, none)))

-- ---- one answer

says_some : (from : Standing) (text : List ℕ) → (v : Result Contents OpenRefusal) × OpenSays from text v
says_some from text = by (empty_or_not from.book)
  where
    read : IsFresh from → (v : Result Contents BookFault) → BookSays text v
        → (v : Result Contents OpenRefusal) × OpenSays from text v
    read fresh (Ok book) h = (Ok book, (fresh, h))
    read fresh (Err why) h = (Err (faulty why), (fresh, h))

    by : IsEmpty from.book ⊎ (IsEmpty from.book → ⊥) → (v : Result Contents OpenRefusal) × OpenSays from text v
    by (inr n) = (Err not_empty, n)
    by (inl empty) = of from.filings.last refl
      where
        of : (last : Option Month) → from.filings.last ≡ last → (v : Result Contents OpenRefusal) × OpenSays from text v
        of (Some m) e = (Err filed, (empty, λ none. cc))
        of None e = let t = texts.some text in read (record { book = empty; filings = e }) t.0 t.1

says_one : (from : Standing) (text : List ℕ) (v w : Result Contents OpenRefusal) → OpenSays from text v
    → OpenSays from text w → v ≡ w
says_one from text (Ok b) (Ok c) h k =
    let e = texts.one text (Ok b) (Ok c) h.1 k.1 in
    let same : b ≡ c = cc in
    ap (λ book. Ok book) same
says_one from text (Ok b) (Err not_empty) h k = absurd (k h.0.book)
says_one from text (Ok b) (Err filed) h k = absurd (k.1 h.0.filings)
says_one from text (Ok b) (Err (faulty why)) h k = let e = texts.one text (Ok b) (Err why) h.1 k.1 in cc
says_one from text (Err not_empty) (Ok c) h k = absurd (h k.0.book)
says_one from text (Err not_empty) (Err not_empty) h k = refl
says_one from text (Err not_empty) (Err filed) h k = absurd (h k.0)
says_one from text (Err not_empty) (Err (faulty why)) h k = absurd (h k.0.book)
says_one from text (Err filed) (Ok c) h k = absurd (h.1 k.0.filings)
says_one from text (Err filed) (Err not_empty) h k = absurd (k h.0)
says_one from text (Err filed) (Err filed) h k = refl
says_one from text (Err filed) (Err (faulty why)) h k = absurd (h.1 k.0.filings)
says_one from text (Err (faulty why)) (Ok c) h k = let e = texts.one text (Err why) (Ok c) h.1 k.1 in cc
says_one from text (Err (faulty why)) (Err not_empty) h k = absurd (k h.0.book)
says_one from text (Err (faulty why)) (Err filed) h k = absurd (k.1 h.0.filings)
says_one from text (Err (faulty why)) (Err (faulty other)) h k =
    let e = texts.one text (Err why) (Err other) h.1 k.1 in
    let same : why ≡ other = cc in
    ap (λ w. Err (faulty w)) same

pub open_some : (from : Standing) (text : List ℕ) → Has (IsOpenStep from text)
open_some from text = let v = says_some from text in by v.0 v.1
  where
    by : (v : Result Contents OpenRefusal) → OpenSays from text v → Has (IsOpenStep from text)
    by (Ok book) h = (
      with_book from book,
      answered ok_line (whole_cost book),
      record { verdict = Ok book; says = h; is = (refl, refl) },
    )
    by (Err why) h = (from, refusal (open_detail why), record { verdict = Err why; says = h; is = (refl, refl) })

pub open_one : (from : Standing) (text : List ℕ) (to to' : Standing) (a a' : Answer) → IsOpenStep from text to a
    → IsOpenStep from text to' a' → Same to to' a a'
open_one from text to to' a a' h k =
    by k.verdict (subst (λ v. IsOpened from v to a) (says_one from text h.verdict k.verdict h.says k.says) h.is) k.is
  where
    by : (v : Result Contents OpenRefusal) → IsOpened from v to a → IsOpened from v to' a' → Same to to' a a'
    by (Ok book) p q = (p.0 ∙ sym q.0, p.1 ∙ sym q.1)
    by (Err why) p q = stays_one from to to' (refusal (open_detail why)) a a' p q

-- ---- what is read of the front of a file is what the file says

pub open_front : (n : ℕ) → 268435456 < n → (from : Standing) (text : List ℕ) (to : Standing) (a : Answer)
    → IsOpenStep from (take n text) to a → IsOpenStep from text to a
open_front n more from text to a h = record { verdict = h.verdict; says = by h.verdict h.says; is = h.is }
  where
    by : (v : Result Contents OpenRefusal) → OpenSays from (take n text) v → OpenSays from text v
    by (Ok book) s = (s.0, texts.fronts n text more (Ok book) s.1)
    by (Err not_empty) s = s
    by (Err filed) s = s
    by (Err (faulty why)) s = (s.0, texts.fronts n text more (Err why) s.1)

-- ---- replies

-- no book is opened
pub open_refused : (from : Standing) (text : List ℕ) (steps : ℕ) (why : OpenRefusal) (reply : Result LineReply AllocError)
    → OpenSays from text (Err why) → IfOk reply (λ r. reply_of r ≡ refusal (open_detail why))
    → IfOk reply (λ r. IsMade (IsOpenStep from text) from steps steps (reply_of r))
open_refused from text steps why reply h = if_ok_map reply _ _ (λ r is. made (reply_of r) is)
  where
    made : (a : Answer) → a ≡ refusal (open_detail why) → IsMade (IsOpenStep from text) from steps steps a
    made a is =
        let none : a.steps ≡ 0 = ap (λ (x : Answer). x.steps) is in
        made_still (IsOpenStep from text) from steps a (record { verdict = Err why; says = h; is = (refl, is) }) none

module _ (from : Standing) (text : List ℕ) (fresh : IsFresh from) (before now : ℕ) where
  -- the text isn't that of a book
  says_fault : (why : BookFault) (a : Answer) → IsBookFaultOrMemory text why → IsBookRefusal why a
      → BookSays text (Err why) × (a ≡ refusal (book_detail why))
  says_fault (books.Memory e) a h is = absurd is
  says_fault books.Long a h is = (h, is)
  says_fault (books.Form item) a h is = (h, is)
  says_fault (books.Plan day) a h is = (h, is)

  still : (why : BookFault) (a : Answer) → CountsRead text (Err why) before now → IsBookRefusal why a → now ≡ before
  still (books.Memory e) a h is = absurd is
  still books.Long a h is = h
  still (books.Form item) a h is = h
  still (books.Plan day) a h is = h

  pub fault_made : (why : BookFault) (reply : Result LineReply AllocError) → IsBookFaultOrMemory text why
      → CountsRead text (Err why) before now → IfOk reply (λ r. IsBookRefusal why (reply_of r))
      → IfOk reply (λ r. IsMade (IsOpenStep from text) from before now (reply_of r))
  fault_made why reply h counts = if_ok_map reply _ _ (λ r is. made (reply_of r) is)
    where
      made : (a : Answer) → IsBookRefusal why a → IsMade (IsOpenStep from text) from before now a
      made a is =
          let s = says_fault why a h is in
          let stays = still why a counts is in
          let none : a.steps ≡ 0 = ap (λ (x : Answer). x.steps) s.1 in
          record {
            is = record { verdict = Err (faulty why); says = (fresh, s.0); is = (refl, s.1) };
            counted = omega (arith, stays, none);
          }

  -- the book is opened
  pub book_made : (book : Contents) (work : Work) (a : Answer) → BookSays text (Ok book) → work ≡ whole_work book
      → now ≡ before + whole_cost book → a ≡ answered ok_line work.steps
      → IsMade (IsOpenStep from text) (with_book from book) before now a
  book_made book work a h all counts is =
      let told : a ≡ answered ok_line (whole_cost book) = is ∙ ap (λ (w : Work). answered ok_line w.steps) all in
      let steps : a.steps ≡ whole_cost book = ap (λ (x : Answer). x.steps) told in
      record {
        is = record { verdict = Ok book; says = (fresh, h); is = (refl, told) };
        counted = counts ∙ ap (λ n. before + n) (sym steps);
      }

  pub book_lost : (book : Contents) → BookSays text (Ok book) → now ≡ before + whole_cost book
      → IsWant (IsOpenStep from text) before now
  book_lost book h counts = inr (record {
    to = with_book from book;
    answer = answered ok_line (whole_cost book);
    is = record { verdict = Ok book; says = (fresh, h); is = (refl, refl) };
    later = omega (arith, counts);
    within = omega (arith, counts);
  })

  pub book_left : (book : Contents) → BookSays text (Ok book)
      → StaysOrSteps (IsOpenStep from text) from (with_book from book)
  book_left book h = inr (
    answered ok_line (whole_cost book),
    record { verdict = Ok book; says = (fresh, h); is = (refl, refl) },
  )

  -- memory ran out, while it was read or after it
  pub read_lost : (why : BookFault) → CountsRead text (Err why) before now → IsWant (IsOpenStep from text) before now
  read_lost (books.Memory e) counts = let t = texts.some text in by t.0 t.1 (counts.1 t.0 t.1)
    where
      by : (v : Result Contents BookFault) → BookSays text v → now ≤ before + said_cost v
          → IsWant (IsOpenStep from text) before now
      by (Ok book) h within = inr (record {
        to = with_book from book;
        answer = answered ok_line (whole_cost book);
        is = record { verdict = Ok book; says = (fresh, h); is = (refl, refl) };
        later = counts.0;
        within = within;
      })
      by (Err why) h within = let later = counts.0 in inl (omega (arith, later, within))
  read_lost books.Long counts = inl counts
  read_lost (books.Form item) counts = inl counts
  read_lost (books.Plan day) counts = inl counts
