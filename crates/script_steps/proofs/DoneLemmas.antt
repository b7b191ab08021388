-- What was traced, filed and owed, as the step of a line: texts of many lines, and the standing that is left.
use Rattle.std.proofs.Common.{◌≡◌, ℕ, ◌+◌, ◌<◌, List, [], ◌∷◌, ◌++◌, length, take, get_or, refl, sym, ap}
use Rattle.std.proofs.Common.{◌∙◌, subst, inl, inr, append_assoc}
use Rattle.std.specs.Prelude.{Result, Ok, Err, IfOk, OnErr}
use Rattle.std.specs.List.{flat_map}
use Rattle.std.proofs.lemmas.Grind.{flat_map-append}
use Rattle.std.proofs.lemmas.List.{append-nil, take_more}
use Rattle.payroll_records.specs.declared.month.Month.{Month}
use Rattle.book_year.specs.declared.outcome.Work.{Work}
use Rattle.recalc_engine.specs.Contents.{Contents}
use Rattle.recalc_engine.specs.MonthRows.{month_rows}
use Rattle.correction_ledger.specs.declared.due.Due.{Due}
use Rattle.correction_ledger.specs.declared.due.Entry.{Entry}
use Rattle.correction_ledger.specs.declared.ledger.FileRefusal.{FileRefusal}
use Rattle.correction_ledger.specs.declared.ledger.FileRefusal.TheVariants as file
use Rattle.correction_ledger.specs.declared.ledger.OwedRefusal.{OwedRefusal}
use Rattle.correction_ledger.specs.declared.ledger.OwedRefusal.TheVariants as owed
use Rattle.correction_ledger.specs.Filings.{Filings, FilingSays, IsFiling, IsFileRefused, IsOwedRefused, OwedSays}
use Rattle.plan_answers.specs.Answers.{Answer, refusal}
use Rattle.script_steps.specs.LineTexts.{file_detail, owed_detail, filed_text}
use Rattle.script_steps.specs.Standings.{Standing, StaysOrSteps, answered}
use Rattle.script_steps.specs.FilingSteps.{IsFileStep, IsOwedAnswer, filed_answer, new_entries, owed_answer}
use Rattle.script_steps.specs.private.StepViews.{IsFileRefusal, IsOwedRefusal}
use Rattle.script_steps.proofs.EditLemmas.{standing}

-- ---- lines, one after the other

-- the line of one element more
lines_more : {X : Type 0} (f : X → List ℕ) (xs : List X) (i : ℕ) (x : X) → x ≡ get_or xs i x → i < length xs →
    flat_map f (take (i + 1) xs) ≡ flat_map f (take i xs) ++ f x
lines_more f xs i x is lt =
    ap (flat_map f) (take_more xs i x lt)
    ∙ flat_map-append f (take i xs) (get_or xs i x ∷ [])
    ∙ ap (λ t. flat_map f (take i xs) ++ t) (append-nil (f (get_or xs i x)))
    ∙ ap (λ y. flat_map f (take i xs) ++ f y) (sym is)

-- a text with it
pub text_with : {X : Type 0} (f : X → List ℕ) (xs : List X) (i : ℕ) (x : X) (first before after : List ℕ) →
    x ≡ get_or xs i x → i < length xs → after ≡ before ++ f x → before ≡ first ++ flat_map f (take i xs) →
    after ≡ first ++ flat_map f (take (i + 1) xs)
text_with f xs i x first before after is lt e b =
    e ∙ ap (λ z. z ++ f x) b ∙ append_assoc first (flat_map f (take i xs)) (f x)
    ∙ ap (λ z. first ++ z) (sym (lines_more f xs i x is lt))

-- ---- a filing

module _ (from : Standing) (month : Month) (book : Contents) (old : Filings) (made : Work)
    (same : standing old made book ≡ from) where
  pub file_made : (new : Filings) (count : ℕ) (entries : List Entry) (answer : Answer) →
      IsFiling (month_rows book) month old new count → entries ≡ new_entries old new →
      answer ≡ answered (filed_text entries count) 0 → IsFileStep from month (standing new made book) answer
  file_made new count entries answer h rest is =
      subst (λ s. IsFileStep s month (standing new made book) answer) same
      (record {
        verdict = Ok (new, count);
        says = h;
        is = (refl, is ∙ ap (λ es. answered (filed_text es count) 0) rest);
      })

  unfiled : (why : FileRefusal) (answer : Answer) → IsFileRefused (month_rows book) month old why →
      IsFileRefusal why answer →
      FilingSays (month_rows book) month old (Err why) × (answer ≡ refusal (file_detail why))
  unfiled (file.Memory e) answer h is = absurd is
  unfiled (file.Early since) answer h is = (h, is)
  unfiled (file.Open k) answer h is = (h, is)
  unfiled file.Entries answer h is = (h, is)

  pub file_refused : (new : Filings) (why : FileRefusal) (answer : Answer) → new ≡ old →
      IsFileRefused (month_rows book) month old why → IsFileRefusal why answer →
      IsFileStep from month (standing new made book) answer
  file_refused new why answer stays h is =
      let u = unfiled why answer h is in
      subst (λ s. IsFileStep s month (standing new made book) answer) same
      (record { verdict = Err why; says = u.0; is = (ap (λ f. standing f made book) stays, u.1) })

  -- what is left, whether it is answered or not
  pub file_left : (new : Filings) (said : Result ℕ FileRefusal) → IfOk said (IsFiling (month_rows book) month old new) →
      OnErr said (new ≡ old) → StaysOrSteps (IsFileStep from month) from (standing new made book)
  file_left new (Ok count) h stays =
      let answer : Answer = filed_answer old (new, count) in
      inr (
        answer,
        subst (λ s. IsFileStep s month (standing new made book) answer) same
            (record { verdict = Ok (new, count); says = h; is = (refl, refl) }),
      )
  file_left new (Err why) h stays = inl (ap (λ f. standing f made book) stays ∙ same)

-- ---- what is owed

module _ (from : Standing) (book : Contents) (now : Filings) (made : Work) (same : standing now made book ≡ from) where
  pub owed_told : (verdict : Result (List Due) OwedRefusal) (answer : Answer) →
      OwedSays (month_rows book) now verdict → answer ≡ owed_answer verdict → IsOwedAnswer from answer
  owed_told verdict answer h is =
      subst (λ s. IsOwedAnswer s answer) same (record { verdict = verdict; says = h; told = is })

  says_refused : (why : OwedRefusal) (answer : Answer) → IsOwedRefused (month_rows book) now why →
      IsOwedRefusal why answer → OwedSays (month_rows book) now (Err why) × (answer ≡ refusal (owed_detail why))
  says_refused (owed.Memory e) answer h is = absurd is
  says_refused owed.NothingFiled answer h is = (h, is)
  says_refused (owed.Open k) answer h is = (h, is)

  pub owed_refused : (why : OwedRefusal) (answer : Answer) → IsOwedRefused (month_rows book) now why →
      IsOwedRefusal why answer → IsOwedAnswer from answer
  owed_refused why answer h is =
      let s = says_refused why answer h is in
      owed_told (Err why) answer s.0 s.1

-- ---- the line end behind the words of a line

pub ended_due : (p a b c d : List ℕ) →
    p ++ (32 ∷ (a ++ (32 ∷ (b ++ (32 ∷ (c ++ (32 ∷ (d ++ (10 ∷ []))))))))) ≡
    (p ++ (32 ∷ (a ++ (32 ∷ (b ++ (32 ∷ (c ++ (32 ∷ d)))))))) ++ (10 ∷ [])
ended_due p a b c d = simp append_assoc

pub ended_value : (p a b c d e : List ℕ) →
    p ++ (32 ∷ (a ++ (32 ∷ (b ++ (32 ∷ (c ++ (32 ∷ (d ++ (32 ∷ (e ++ (10 ∷ []))))))))))) ≡
    (p ++ (32 ∷ (a ++ (32 ∷ (b ++ (32 ∷ (c ++ (32 ∷ (d ++ (32 ∷ e)))))))))) ++ (10 ∷ [])
ended_value p a b c d e = simp append_assoc
