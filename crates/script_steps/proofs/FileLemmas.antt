-- What is done with the fronts of files is done with the files: of a file that is too long more than its limit is read.
use Rattle.std.proofs.Common.{◌≡◌, ℕ, ◌<◌, ◌≤◌, List, length, take, subst, arith}
use Rattle.std.specs.Prelude.{Option, Some, Result, Ok, Err}
use Rattle.outside.specs.Told.{FileMap, IsToldFront}
use Rattle.payroll_records.specs.declared.day.Day.{Day}
use Rattle.payroll_records.specs.declared.record.Record.{Record}
use Rattle.payroll_records.specs.declared.table.TableFault.{TableFault}
use Rattle.payroll_records.specs.declared.table.TableFault.TheVariants as tables
use Rattle.payroll_records.specs.CsvRows.{csv_rows}
use Rattle.payroll_records.specs.Limits.{longest_table}
use Rattle.payroll_records.specs.Tables.{TableSays, IsTable, BreaksAt, ByItself, IsNoHeader, WrongWidth}
use Rattle.payroll_records.specs.Tables.{WrongEmployee, WrongMonth, WrongDay, WrongValue, Repeats}
use Rattle.script_lang.specs.Commands as asked
use Rattle.pap_plan.specs.declared.refusal.PlanRefusal.{PlanRefusal}
use Rattle.pap_plan.specs.Acceptance.{Meaning, AcceptanceSays}
use Rattle.plan_answers.specs.Answers.{Answer}
use Rattle.plan_answers.proofs.Laws.{whole, longer, front_there, answers_front, accepted_whole, refusal_answer}
use Rattle.script_steps.specs.Standings.{Standing, Doing}
use Rattle.script_steps.specs.declared.plan.Judged.{Judged}
use Rattle.script_steps.specs.LineSteps.{IsPlanStep, IsReadStep, IsTableStep, IsTextsStep, IsUsed, PlanUse}
use Rattle.script_steps.specs.OpenSteps.{IsOpenStep}
use Rattle.script_steps.specs.private.PlanViews.{AreJudged}
use Rattle.script_steps.specs.private.StepViews.{ToldDoes}
use Rattle.script_steps.proofs.OpenLemmas.{open_front}

-- ---- a table

module _ (n : ℕ) (more : longest_table < n) where
  table_front : (bytes : List ℕ) (v : Result (List Record) TableFault) → TableSays (take n bytes) v → TableSays bytes v
  table_front bytes (Ok records) h = subst (λ b. IsTable b records) (whole longest_table n bytes more h.short) h
  table_front bytes (Err tables.TableLong) h = longer longest_table n bytes h
  table_front bytes (Err tables.Header) h =
      subst (λ b. (length b ≤ longest_table) × IsNoHeader (csv_rows b)) (whole longest_table n bytes more h.0) h
  table_front bytes (Err (tables.Width row)) h =
      subst (λ b. BreaksAt b row (ByItself WrongWidth)) (whole longest_table n bytes more h.short) h
  table_front bytes (Err (tables.Employee row)) h =
      subst (λ b. BreaksAt b row (ByItself WrongEmployee)) (whole longest_table n bytes more h.short) h
  table_front bytes (Err (tables.Month row)) h =
      subst (λ b. BreaksAt b row (ByItself WrongMonth)) (whole longest_table n bytes more h.short) h
  table_front bytes (Err (tables.Day row)) h =
      subst (λ b. BreaksAt b row (ByItself WrongDay)) (whole longest_table n bytes more h.short) h
  table_front bytes (Err (tables.Value row name)) h =
      subst (λ b. BreaksAt b row (ByItself (WrongValue name))) (whole longest_table n bytes more h.short) h
  table_front bytes (Err (tables.Repeat row)) h =
      subst (λ b. BreaksAt b row Repeats) (whole longest_table n bytes more h.short) h
  table_front bytes (Err (tables.Memory e)) h = absurd h

  table_step_front : (from : Standing) (bytes : List ℕ) (to : Standing) (a : Answer)
      → IsTableStep from (take n bytes) to a → IsTableStep from bytes to a
  table_step_front from bytes to a h = record { said = h.said; says = table_front bytes h.said h.says; is = h.is }

-- what is done with what was read of a file is done with the file
read_told : (Step : List ℕ → Doing) (n : ℕ)
    → ((bytes : List ℕ) (to : Standing) (a : Answer) → Step (take n bytes) to a → Step bytes to a)
    → (told : Option FileMap) (file front : List ℕ) → IsToldFront told file n front
    → (to : Standing) (a : Answer) → Step front to a
    → (files : FileMap) → told ≡ Some files → IsReadStep Step files file to a
read_told Step n whole told file front read to a h = λ files e.
    let f = front_there (files file) n front (subst (λ t. IsToldFront t file n front) e read) in
    record { bytes = f.0; there = f.1; is = whole f.0 to a (subst (λ b. Step b to a) f.2 h) }

-- a table, and a saved book
pub load_told : (told : Option FileMap) (from : Standing) (file front : List ℕ) → IsToldFront told file 33554433 front
    → (to : Standing) (a : Answer) → IsTableStep from front to a → ToldDoes told from (Ok (asked.load file)) to a
load_told told from file front read to a h =
    read_told (IsTableStep from) 33554433 (table_step_front 33554433 (omega arith) from) told file front read to a h

pub open_told : (told : Option FileMap) (from : Standing) (file front : List ℕ) → IsToldFront told file 268435457 front
    → (to : Standing) (a : Answer) → IsOpenStep from front to a → ToldDoes told from (Ok (asked.opening file)) to a
open_told told from file front read to a h =
    read_told (IsOpenStep from) 268435457 (open_front 268435457 (omega arith) from) told file front read to a h

-- ---- a plan

module _ (n m : ℕ) (more_plan : 1048576 < n) (more_limits : 262144 < m) where
  used_front : (Use : PlanUse) (from : Standing) (day : Day) (plan limits : List ℕ) (v : Result Meaning PlanRefusal)
      (to : Standing) (a : Answer) → AcceptanceSays (take n plan) (take m limits) v
      → IsUsed Use from day (take n plan) (take m limits) v to a → IsUsed Use from day plan limits v to a
  used_front Use from day plan limits (Ok x) to a h is =
      let same = accepted_whole n m more_plan more_limits plan limits x h in
      let first = subst (λ p. IsUsed Use from day p (take m limits) (Ok x) to a) same.0 is in
      subst (λ l. IsUsed Use from day plan l (Ok x) to a) same.1 first
  used_front Use from day plan limits (Err why) to a h is =
      (is.0, refusal_answer n m more_plan more_limits plan why a is.1)

  texts_front : (Use : PlanUse) (from : Standing) (day : Day) (plan limits : List ℕ) (to : Standing) (a : Answer)
      → IsTextsStep Use from day (take n plan) (take m limits) to a → IsTextsStep Use from day plan limits to a
  texts_front Use from day plan limits to a h = record {
    verdict = h.verdict;
    says = answers_front n m more_plan more_limits plan limits h.verdict h.says;
    is = used_front Use from day plan limits h.verdict to a h.says h.is;
  }

-- the plan of what was read of two files
pub plan_told : (Use : PlanUse) (told : Option FileMap) (from : Standing) (day : Day) (plan limits : List ℕ)
    (judged : Judged) (j : AreJudged told plan limits judged) (to : Standing) (a : Answer)
    → IsTextsStep Use from day j.plan_front j.limits_front to a
    → (files : FileMap) → told ≡ Some files → IsPlanStep Use files from day plan limits to a
plan_told Use told from day plan limits judged j to a h = λ files e.
    let r = j.read files e in
    let first = subst (λ b. IsTextsStep Use from day b j.limits_front to a) r.plan_read h in
    record {
      plan_bytes = r.plan_bytes;
      limits_bytes = r.limits_bytes;
      plan_there = r.plan_there;
      limits_there = r.limits_there;
      is = texts_front 1048577 262145 (omega arith) (omega arith) Use from day r.plan_bytes r.limits_bytes to a
          (subst (λ b. IsTextsStep Use from day (take 1048577 r.plan_bytes) b to a) r.limits_read first);
    }
