-- What each kind of line does, it does in one way.
use Rattle.std.proofs.Common.{◌≡◌, ℕ, List, refl, sym, ap, ◌∙◌, subst}
use Rattle.std.specs.Prelude.{Some, Result, Ok, Err}
use Rattle.outside.specs.Told.{FileMap}
use Rattle.payroll_records.specs.declared.day.Day.{Day}
use Rattle.payroll_records.specs.declared.record.Record.{Record}
use Rattle.payroll_records.specs.declared.table.TableFault.{TableFault}
use Rattle.payroll_records.specs.Tables.{TableSays}
use Rattle.payroll_records.proofs.Laws.{table_once, table_some}
use Rattle.plan_calendar.specs.Picking.{Entry}
use Rattle.book_year.specs.Accepted.{Accepted}
use Rattle.pap_plan.specs.declared.refusal.PlanRefusal.{PlanRefusal}
use Rattle.pap_plan.specs.Acceptance.{Meaning, AcceptanceSays}
use Rattle.pap_plan.proofs.Laws as plans
use Rattle.book_edits.specs.declared.refusal.EditRefusal.{EditRefusal}
use Rattle.recalc_engine.specs.Contents.{Contents}
use Rattle.recalc_engine.specs.EditAnswers as edits
use Rattle.recalc_engine.specs.EditAnswers.{Edit, EditAnswers}
use Rattle.recalc_engine.proofs.Laws.{one_answer}
use Rattle.plan_answers.specs.Answers.{Answer, refusal}
use Rattle.plan_answers.proofs.Laws.{one_refusal, some_refusal}
use Rattle.script_steps.specs.LineTexts.{ok_line, table_detail, edit_detail}
use Rattle.script_steps.specs.Standings.{Standing, Doing, Stays, answered, after_edit}
use Rattle.script_steps.specs.LineSteps.{IsEditAnswered, IsEditStep, IsLoaded, IsTableStep, IsReadStep, IsPut, IsTrialStep}
use Rattle.script_steps.specs.LineSteps.{IsUsed, IsTextsStep, IsPlanStep, PlanUse, bound_text, trial_answer}

-- there is something that a line leaves and answers
abbrev pub Has : (Standing → Answer → Type 0) → Type 0
Has Step = (to : Standing) × (answer : Answer) × Step to answer

-- and nothing else
abbrev pub Same : Standing → Standing → Answer → Answer → Type 0
Same to to' a a' = (to ≡ to') × (a ≡ a')

pub stays_one : (from to to' : Standing) (said a a' : Answer) → Stays from to said a → Stays from to' said a'
    → Same to to' a a'
stays_one from to to' said a a' h k = (h.0 ∙ sym k.0, h.1 ∙ sym k.1)

pub one_some : (x y : List ℕ) → Some x ≡ Some y → x ≡ y
one_some x y e = cc

-- ---- an edit

pub edit_some : (text : List ℕ) (from : Standing) (e : Edit) → Has (IsEditStep text from e)
edit_some text from e = let o = one_answer from.book e in by o.answer o.says
  where
    by : (v : Result Contents EditRefusal) → EditAnswers from.book e v → Has (IsEditStep text from e)
    by (Ok book) h = (
      after_edit from book,
      answered text book.last.steps,
      record { verdict = Ok book; says = h; is = (refl, refl) },
    )
    by (Err why) h = (from, refusal (edit_detail why), record { verdict = Err why; says = h; is = (refl, refl) })

pub edit_one : (text : List ℕ) (from : Standing) (e : Edit) (to to' : Standing) (a a' : Answer)
    → IsEditStep text from e to a → IsEditStep text from e to' a' → Same to to' a a'
edit_one text from e to to' a a' h k =
    let o = one_answer from.book e in
    let same = o.alone h.verdict h.says ∙ sym (o.alone k.verdict k.says) in
    by k.verdict (subst (λ v. IsEditAnswered text from v to a) same h.is) k.is
  where
    by : (v : Result Contents EditRefusal) → IsEditAnswered text from v to a → IsEditAnswered text from v to' a'
        → Same to to' a a'
    by (Ok book) p q = (p.0 ∙ sym q.0, p.1 ∙ sym q.1)
    by (Err why) p q = stays_one from to to' (refusal (edit_detail why)) a a' p q

-- ---- a table

pub table_step_some : (from : Standing) (table : List ℕ) → Has (IsTableStep from table)
table_step_some from table = let t = table_some table in by t.0 t.1
  where
    by : (v : Result (List Record) TableFault) → TableSays table v → Has (IsTableStep from table)
    by (Ok records) h =
        let e = edit_some ok_line from (edits.load records) in
        (e.0, e.1, record { said = Ok records; says = h; is = e.2 })
    by (Err why) h = (from, refusal (table_detail why), record { said = Err why; says = h; is = (refl, refl) })

pub table_step_one : (from : Standing) (table : List ℕ) (to to' : Standing) (a a' : Answer)
    → IsTableStep from table to a → IsTableStep from table to' a' → Same to to' a a'
table_step_one from table to to' a a' h k =
    by k.said (subst (λ v. IsLoaded from v to a) (table_once table h.said k.said h.says k.says) h.is) k.is
  where
    by : (v : Result (List Record) TableFault) → IsLoaded from v to a → IsLoaded from v to' a' → Same to to' a a'
    by (Ok records) p q = edit_one ok_line from (edits.load records) to to' a a' p q
    by (Err why) p q = stays_one from to to' (refusal (table_detail why)) a a' p q

-- ---- a file

pub read_one : (Step : List ℕ → Doing)
    → ((bytes : List ℕ) (to to' : Standing) (a a' : Answer) → Step bytes to a → Step bytes to' a' → Same to to' a a')
    → (files : FileMap) (file : List ℕ) (to to' : Standing) (a a' : Answer)
    → IsReadStep Step files file to a → IsReadStep Step files file to' a' → Same to to' a a'
read_one Step one files file to to' a a' h k =
    let same = one_some h.bytes k.bytes (sym h.there ∙ k.there) in
    one k.bytes to to' a a' (subst (λ t. Step t to a) same h.is) k.is

-- ---- a plan

abbrev pub OneUse : PlanUse → Type 0
OneUse Use =
    (from : Standing) (e : Entry Accepted) (to to' : Standing) (a a' : Answer)
    → Use from e to a → Use from e to' a' → Same to to' a a'

pub put_some : (from : Standing) (e : Entry Accepted) → Has (IsPut from e)
put_some from e = edit_some (bound_text e) from (edits.put e)

pub put_one : OneUse IsPut
put_one from e to to' a a' h k = edit_one (bound_text e) from (edits.put e) to to' a a' h k

pub tried_some : (from : Standing) (e : Entry Accepted) → Has (IsTrialStep from e)
tried_some from e =
    let o = one_answer from.book (edits.put e) in
    (from, trial_answer from.book e o.answer, record { verdict = o.answer; says = o.says; is = (refl, refl) })

pub tried_one : OneUse IsTrialStep
tried_one from e to to' a a' h k =
    let o = one_answer from.book (edits.put e) in
    let same = o.alone h.verdict h.says ∙ sym (o.alone k.verdict k.says) in
    (h.is.0 ∙ sym k.is.0, h.is.1 ∙ ap (trial_answer from.book e) same ∙ sym k.is.1)

module _ (Use : PlanUse) (from : Standing) (day : Day) where
  pub texts_some : ((e : Entry Accepted) → Has (Use from e)) → (plan limits : List ℕ)
      → Has (IsTextsStep Use from day plan limits)
  texts_some use_some plan limits = let v = plans.some plan limits in by v.0 v.1
    where
      by : (v : Result Meaning PlanRefusal) → AcceptanceSays plan limits v → Has (IsTextsStep Use from day plan limits)
      by (Ok m) h =
          let e = use_some (day, record { plan = plan; limits = limits; meaning = m }) in
          (e.0, e.1, record { verdict = Ok m; says = h; is = e.2 })
      by (Err why) h =
          let w = some_refusal plan limits why h in
          (from, w.0, record { verdict = Err why; says = h; is = (refl, w.1) })

  texts_one : OneUse Use → (plan limits : List ℕ) (to to' : Standing) (a a' : Answer)
      → IsTextsStep Use from day plan limits to a → IsTextsStep Use from day plan limits to' a' → Same to to' a a'
  texts_one use_one plan limits to to' a a' h k =
      let same = plans.one plan limits h.verdict k.verdict h.says k.says in
      by k.verdict (subst (λ v. IsUsed Use from day plan limits v to a) same h.is) k.is
    where
      by : (v : Result Meaning PlanRefusal) → IsUsed Use from day plan limits v to a
          → IsUsed Use from day plan limits v to' a' → Same to to' a a'
      by (Ok m) p q = use_one from (day, record { plan = plan; limits = limits; meaning = m }) to to' a a' p q
      by (Err why) p q = (p.0 ∙ sym q.0, one_refusal plan why a a' p.1 q.1)

  pub plan_one : OneUse Use → (files : FileMap) (plan limits : List ℕ) (to to' : Standing) (a a' : Answer)
      → IsPlanStep Use files from day plan limits to a → IsPlanStep Use files from day plan limits to' a'
      → Same to to' a a'
  plan_one use_one files plan limits to to' a a' h k =
      let p = one_some h.plan_bytes k.plan_bytes (sym h.plan_there ∙ k.plan_there) in
      let l = one_some h.limits_bytes k.limits_bytes (sym h.limits_there ∙ k.limits_there) in
      let first = subst (λ x. IsTextsStep Use from day x h.limits_bytes to a) p h.is in
      let second = subst (λ y. IsTextsStep Use from day k.plan_bytes y to a) l first in
      texts_one use_one k.plan_bytes k.limits_bytes to to' a a' second k.is
