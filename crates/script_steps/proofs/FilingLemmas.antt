-- What the lines `file` and `owed` do, they do in one way.
use Rattle.std.proofs.Common.{ℕ, refl, sym, ap, ◌∙◌, subst}
use Rattle.std.specs.Prelude.{Result, Ok, Err}
use Rattle.payroll_records.specs.declared.month.Month.{Month}
use Rattle.recalc_engine.specs.MonthRows.{month_rows}
use Rattle.correction_ledger.specs.declared.ledger.FileRefusal.{FileRefusal}
use Rattle.correction_ledger.specs.Filings.{Filings, FilingSays}
use Rattle.correction_ledger.proofs.Laws.{filing_answers, owed_answers}
use Rattle.plan_answers.specs.Answers.{Answer, refusal}
use Rattle.script_steps.specs.LineTexts.{file_detail}
use Rattle.script_steps.specs.Standings.{Standing, after_filing}
use Rattle.script_steps.specs.FilingSteps.{IsFileAnswered, IsFileStep, IsOwedStep, filed_answer, owed_answer}
use Rattle.script_steps.proofs.KindLemmas.{Has, Same, stays_one}

-- ---- file MONTH

pub file_some : (from : Standing) (month : Month) → Has (IsFileStep from month)
file_some from month = let o = filing_answers (month_rows from.book) month from.filings in by o.answer o.says
  where
    by : (v : Result (Filings × ℕ) FileRefusal) → FilingSays (month_rows from.book) month from.filings v
        → Has (IsFileStep from month)
    by (Ok made) h = (
      after_filing from made.0,
      filed_answer from.filings made,
      record { verdict = Ok made; says = h; is = (refl, refl) },
    )
    by (Err why) h = (from, refusal (file_detail why), record { verdict = Err why; says = h; is = (refl, refl) })

pub file_one : (from : Standing) (month : Month) (to to' : Standing) (a a' : Answer)
    → IsFileStep from month to a → IsFileStep from month to' a' → Same to to' a a'
file_one from month to to' a a' h k =
    let o = filing_answers (month_rows from.book) month from.filings in
    let same = o.alone h.verdict h.says ∙ sym (o.alone k.verdict k.says) in
    by k.verdict (subst (λ v. IsFileAnswered from v to a) same h.is) k.is
  where
    by : (v : Result (Filings × ℕ) FileRefusal) → IsFileAnswered from v to a → IsFileAnswered from v to' a'
        → Same to to' a a'
    by (Ok made) p q = (p.0 ∙ sym q.0, p.1 ∙ sym q.1)
    by (Err why) p q = stays_one from to to' (refusal (file_detail why)) a a' p q

-- ---- what is owed

pub owed_some : (from : Standing) → Has (IsOwedStep from)
owed_some from =
    let o = owed_answers (month_rows from.book) from.filings in
    (from, owed_answer o.answer, (refl, record { verdict = o.answer; says = o.says; told = refl }))

pub owed_one : (from to to' : Standing) (a a' : Answer) → IsOwedStep from to a → IsOwedStep from to' a'
    → Same to to' a a'
owed_one from to to' a a' h k =
    let o = owed_answers (month_rows from.book) from.filings in
    let same = o.alone h.1.verdict h.1.says ∙ sym (o.alone k.1.verdict k.1.says) in
    (h.0 ∙ sym k.0, h.1.told ∙ ap owed_answer same ∙ sym k.1.told)
