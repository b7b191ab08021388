-- What the lines `file` and `owed` do.
use Rattle.std.specs.Prelude.{◌≡◌, ℕ, List, Result, Ok, Err, drop, length}
use Rattle.payroll_records.specs.declared.month.Month.{Month}
use Rattle.recalc_engine.specs.MonthRows.{month_rows}
use Rattle.correction_ledger.specs.declared.due.Due.{Due}
use Rattle.correction_ledger.specs.declared.due.Entry.{Entry}
use Rattle.correction_ledger.specs.declared.ledger.FileRefusal.{FileRefusal}
use Rattle.correction_ledger.specs.declared.ledger.OwedRefusal.{OwedRefusal}
use Rattle.correction_ledger.specs.Filings.{Filings, FilingSays, OwedSays}
use Rattle.plan_answers.specs.Answers.{Answer, refusal}
use Rattle.script_steps.specs.LineTexts.{file_detail, filed_text, owed_detail, owed_text}
use Rattle.script_steps.specs.Standings.{Standing, Stays, after_filing, answered}

-- ---- file MONTH

-- the entries behind those that were filed before
abbrev pub new_entries : Filings → Filings → List Entry
new_entries old new = drop (length old.entries) new.entries

-- what is answered where a month is filed: these entries, and their number
abbrev pub filed_answer : Filings → Filings × ℕ → Answer
filed_answer old made = answered (filed_text (new_entries old made.0) made.1) 0

-- the month is filed, and the entries that are filed with it are answered; or it isn't, and nothing changes
abbrev pub IsFileAnswered : Standing → Result (Filings × ℕ) FileRefusal → Standing → Answer → Type 0
IsFileAnswered from (Ok made) to answer =
    (to ≡ after_filing from made.0) × (answer ≡ filed_answer from.filings made)
IsFileAnswered from (Err why) to answer = Stays from to (refusal (file_detail why)) answer

-- filing the month leads from what the lines before have left to this, with this answer: the entries that are
-- due, or the refusal, where nothing changes
pub record IsFileStep (from : Standing) (month : Month) (to : Standing) (answer : Answer) : Type 0 where
  pub verdict : Result (Filings × ℕ) FileRefusal
  pub says : FilingSays (month_rows from.book) month from.filings verdict
  pub is : IsFileAnswered from verdict to answer

-- ---- owed

-- what is answered to the question what is owed
abbrev pub owed_answer : Result (List Due) OwedRefusal → Answer
owed_answer (Ok dues) = answered (owed_text dues) 0
owed_answer (Err why) = refusal (owed_detail why)

-- what is owed is answered, or the refusal
pub record IsOwedAnswer (from : Standing) (answer : Answer) : Type 0 where
  pub verdict : Result (List Due) OwedRefusal
  pub says : OwedSays (month_rows from.book) from.filings verdict
  pub told : answer ≡ owed_answer verdict

-- what is owed is answered, or the refusal, and nothing changes
abbrev pub IsOwedStep : Standing → Standing → Answer → Type 0
IsOwedStep from to answer = (to ≡ from) × IsOwedAnswer from answer
