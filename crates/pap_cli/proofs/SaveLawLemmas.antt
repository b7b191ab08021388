-- A script has one answer of `save`.
use Rattle.std.proofs.Common.{◌≡◌, ℕ, List, Bool, true, false, refl, sym, ap, ◌∙◌, subst}
use Rattle.std.specs.Prelude.{codes, All, Result, Ok, Err}
use Rattle.outside.specs.Told.{FileMap}
use Rattle.recalc_engine.specs.Contents.{Contents}
use Rattle.book_file.specs.BookLaws.{BooksAreSaved, BooksAreSavedOneWay}
use Rattle.book_file.specs.Saving.{SaveSays}
use Rattle.book_file.specs.declared.refusal.SaveRefusal.{SaveRefusal}
use Rattle.book_file.specs.declared.refusal.SaveRefusal.TheVariants as unsaved
use Rattle.plan_answers.specs.Answers.{Answer}
use Rattle.plan_answers.specs.Lines.{refusal_line}
use Rattle.script_steps.specs.Steps.{AreThere}
use Rattle.script_run.specs.Transcripts.{lines_of}
use Rattle.script_run.proofs.Laws as script
use Rattle.pap_cli.specs.SaveAnswers.{Written, refused_with, IsVerdict, IsBookWritten, IsSave, IsSaveOf, was_filed, SaveAnswers}
use Rattle.pap_cli.specs.Laws.{ScriptsHaveOneSave}

-- ---- no two

same_verdict : (verdict : Result (List ℕ) SaveRefusal) (a b : Written) → IsVerdict verdict a → IsVerdict verdict b → a ≡ b
same_verdict (Ok text) a b h k = h ∙ sym k
same_verdict (Err unsaved.Long) a b h k = h ∙ sym k
same_verdict (Err (unsaved.Memory e)) a b h k = absurd h

same_book : BooksAreSavedOneWay → (book : Contents) (a b : Written) → IsBookWritten book a → IsBookWritten book b → a ≡ b
same_book one book a b h k = same_verdict k.verdict a b (subst (λ v. IsVerdict v a) (one book h.verdict k.verdict h.says k.says) h.is) k.is

pub same_save : BooksAreSavedOneWay → (refused filed : Bool) (refusals : List ℕ) (book : Contents) (a b : Written) → IsSave refused filed refusals book a → IsSave refused filed refusals book b → a ≡ b
same_save one true filed refusals book a b h k = h ∙ sym k
same_save one false true refusals book a b h k = h ∙ sym k
same_save one false false refusals book a b h k = same_book one book a b h k

abbrev written : Answer → Written
written a = record { text = a.text; refused = a.refused }

same_answer : (a b : Answer) → written a ≡ written b → a.steps ≡ b.steps → a ≡ b
same_answer a b w s =
    let first : a ≡ record { text = b.text; refused = b.refused; steps = a.steps } = ap (λ v. record { text = v.text; refused = v.refused; steps = a.steps }) w in
    let second : record { text = b.text; refused = b.refused; steps = a.steps } ≡ b = ap (λ n. record { text = b.text; refused = b.refused; steps = n }) s in
    first ∙ second

same_saved : BooksAreSavedOneWay → (files : FileMap) (text : List ℕ) (a b : Answer) → SaveAnswers files text a → SaveAnswers files text b → a ≡ b
same_saved one files text a b h k =
    let same = script.one files text h.session k.session h.is k.is in
    let session = k.session in
    same_answer a b (same_save one session.refused (was_filed session.standing) session.refusals session.standing.book (written a) (written b)
    (subst (λ s. IsSaveOf s (written a)) same h.save) k.save)
    (h.cost ∙ ap (λ s. s.steps) same ∙ sym k.cost)

-- ---- and one

some_verdict : (book : Contents) (verdict : Result (List ℕ) SaveRefusal) → SaveSays book verdict → (w : Written) × IsBookWritten book w
some_verdict book (Ok text) says = (record { text = text; refused = false }, record { verdict = Ok text; says = says; is = refl })
some_verdict book (Err unsaved.Long) says = (refused_with (refusal_line (codes "book Long")), record { verdict = Err unsaved.Long; says = says; is = refl })
some_verdict book (Err (unsaved.Memory e)) says = absurd says

some_save : BooksAreSaved → (refused filed : Bool) (refusals : List ℕ) (book : Contents) → (w : Written) × IsSave refused filed refusals book w
some_save some true filed refusals book = (refused_with refusals, refl)
some_save some false true refusals book = (refused_with (refusal_line (codes "book Filed")), refl)
some_save some false false refusals book = let said = some book in some_verdict book said.0 said.1

some_saved : BooksAreSaved → (files : FileMap) (text : List ℕ) → All (λ line. AreThere files line) (lines_of text) → (a : Answer) × SaveAnswers files text a
some_saved some files text there =
    let has = script.some files text in
    let session = has.session in
    let w = some_save some session.refused (was_filed session.standing) session.refusals session.standing.book in (
      record { text = (w.0).text; refused = (w.0).refused; steps = session.steps },
      record { session = session; is = has.is; there = there; save = w.1; cost = refl },
    )

pub one_save : BooksAreSaved → BooksAreSavedOneWay → ScriptsHaveOneSave
one_save some one files text there = record { some = some_saved some files text there; one = same_saved one files text }
