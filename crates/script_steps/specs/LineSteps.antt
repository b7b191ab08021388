-- What each kind of line does: what it makes of the book and of what was filed, and what it answers.
use Rattle.std.specs.Prelude.{◌≡◌, ◌⊎◌, ℕ, List, ◌++◌, Some, IsSome, Result, Ok, Err}
use Rattle.outside.specs.Told.{FileMap}
use Rattle.payroll_records.specs.declared.day.Day.{Day}
use Rattle.payroll_records.specs.declared.record.Record.{Record}
use Rattle.payroll_records.specs.declared.table.TableFault.{TableFault}
use Rattle.payroll_records.specs.Tables.{TableSays}
use Rattle.plan_calendar.specs.Picking.{Entry, plan_of}
use Rattle.book_year.specs.Accepted.{Accepted}
use Rattle.script_lang.specs.Commands as asked
use Rattle.script_lang.specs.Commands.{Asked}
use Rattle.script_lang.specs.declared.fault.LineFault.{LineFault}
use Rattle.pap_types.specs.Meaning.{bound_of}
use Rattle.pap_plan.specs.declared.refusal.PlanRefusal.{PlanRefusal}
use Rattle.pap_plan.specs.Acceptance.{Meaning, AcceptanceSays}
use Rattle.book_edits.specs.declared.refusal.EditRefusal.{EditRefusal}
use Rattle.recalc_engine.specs.Contents.{Contents}
use Rattle.recalc_engine.specs.EditAnswers as edits
use Rattle.recalc_engine.specs.EditAnswers.{Edit, EditAnswers}
use Rattle.what_if.specs.Trials.{trial_of}
use Rattle.report_csv.specs.ReportTexts.{report_text}
use Rattle.plan_answers.specs.Answers.{Answer, refusal, IsRefusal}
use Rattle.plan_answers.specs.Lines.{bound_line}
use Rattle.script_steps.specs.LineTexts.{ok_line, end_line, work_line, line_detail, table_detail, edit_detail, trial_text}
use Rattle.script_steps.specs.Standings.{Standing, Doing, Stays, answered, after_edit, silence}
use Rattle.script_steps.specs.TraceSteps.{trace_answer}
use Rattle.script_steps.specs.FilingSteps.{IsFileStep, IsOwedStep}
use Rattle.script_steps.specs.OpenSteps.{IsOpenStep}

-- ---- an edit of the book

-- the edit is made, and this text is answered, with the steps of the edit's work; or it is refused, and nothing changes
abbrev pub IsEditAnswered : List ℕ → Standing → Result Contents EditRefusal → Standing → Answer → Type 0
IsEditAnswered text from (Ok book) to answer =
    (to ≡ after_edit from book) × (answer ≡ answered text book.last.steps)
IsEditAnswered text from (Err why) to answer = Stays from to (refusal (edit_detail why)) answer

-- the edit leads from what the lines before have left to this, with this answer: the text where it is made, or the
-- refusal, where nothing changes
pub record IsEditStep (text : List ℕ) (from : Standing) (e : Edit) (to : Standing) (answer : Answer) : Type 0 where
  pub verdict : Result Contents EditRefusal
  pub says : EditAnswers from.book e verdict
  pub is : IsEditAnswered text from verdict to answer

-- ---- a line that names a file: load FILE, open FILE

-- the step of a line that reads a file: what is done with the bytes of the file
pub record IsReadStep
    (Step : List ℕ → Doing) (files : FileMap) (file : List ℕ) (to : Standing) (answer : Answer) : Type 0 where
  pub bytes : List ℕ
  pub there : files file ≡ Some bytes
  pub is : Step bytes to answer

-- ---- load

-- the runs of the table are added, or the table is refused
abbrev pub IsLoaded : Standing → Result (List Record) TableFault → Standing → Answer → Type 0
IsLoaded from (Ok records) to answer = IsEditStep ok_line from (edits.load records) to answer
IsLoaded from (Err why) to answer = Stays from to (refusal (table_detail why)) answer

-- the table of this text is loaded
pub record IsTableStep (from : Standing) (table : List ℕ) (to : Standing) (answer : Answer) : Type 0 where
  pub said : Result (List Record) TableFault
  pub says : TableSays table said
  pub is : IsLoaded from said to answer

-- ---- a line that names a plan for a day: plan DAY PLANFILE LIMITFILE, try DAY PLANFILE LIMITFILE

-- what is done with a plan that is accepted, for its day
abbrev pub PlanUse : Type 1
PlanUse = Standing → Entry Accepted → Doing

-- the plan is accepted and used so; or it is refused, and nothing changes
abbrev pub IsUsed : PlanUse → Standing → Day → List ℕ → List ℕ → Result Meaning PlanRefusal → Standing → Answer → Type 0
IsUsed Use from day plan limits (Ok m) to answer =
    Use from (day, record { plan = plan; limits = limits; meaning = m }) to answer
IsUsed Use from day plan limits (Err why) to answer = (to ≡ from) × IsRefusal plan why answer

-- the step of a line that has the two texts of a plan
pub record IsTextsStep
    (Use : PlanUse) (from : Standing) (day : Day) (plan limits : List ℕ) (to : Standing) (answer : Answer) : Type 0 where
  pub verdict : Result Meaning PlanRefusal
  pub says : AcceptanceSays plan limits verdict
  pub is : IsUsed Use from day plan limits verdict to answer

-- the step of a line that names the two files of a plan
pub record IsPlanStep
    (Use : PlanUse) (files : FileMap) (from : Standing) (day : Day) (plan limits : List ℕ)
    (to : Standing) (answer : Answer) : Type 0 where
  pub plan_bytes : List ℕ
  pub limits_bytes : List ℕ
  pub plan_there : files plan ≡ Some plan_bytes
  pub limits_there : files limits ≡ Some limits_bytes
  pub is : IsTextsStep Use from day plan_bytes limits_bytes to answer

-- the line of an accepted plan's bound
abbrev pub bound_text : Entry Accepted → List ℕ
bound_text e = bound_line (bound_of (plan_of e).meaning.flowchart)

-- `plan`: the plan is put at its day, and its bound is answered
abbrev pub IsPut : PlanUse
IsPut from e to answer = IsEditStep (bound_text e) from (edits.put e) to answer

-- `try`: what putting it would change is answered, behind its bound, or that it can't be put
abbrev pub trial_answer : Contents → Entry Accepted → Result Contents EditRefusal → Answer
trial_answer book e (Ok next) =
    answered (bound_text e ++ trial_text (trial_of book e)) (trial_of book e).work.steps
trial_answer book e (Err why) = refusal (edit_detail why)

-- `try`: the plan is accepted and tried, or refused; nothing changes
pub record IsTrialStep (from : Standing) (e : Entry Accepted) (to : Standing) (answer : Answer) : Type 0 where
  pub verdict : Result Contents EditRefusal
  pub says : EditAnswers from.book (edits.put e) verdict
  pub is : Stays from to (trial_answer from.book e verdict) answer

-- ---- all lines

-- the report, and a last line
abbrev pub report_answer : Standing → Answer
report_answer from = answered (report_text from.book ++ end_line) 0

-- the work of the last edit that was accepted
abbrev pub work_answer : Standing → Answer
work_answer from = answered (work_line from.book.last) 0

-- what a line that says this does: a line that is refused changes nothing
abbrev pub Does : FileMap → Standing → Result Asked LineFault → Standing → Answer → Type 0
Does files from (Err why) to answer = Stays from to (refusal (line_detail why)) answer
Does files from (Ok asked.nothing) to answer = Stays from to silence answer
Does files from (Ok (asked.plan day plan limits)) to answer = IsPlanStep IsPut files from day plan limits to answer
Does files from (Ok (asked.drop day)) to answer = IsEditStep ok_line from (edits.drop day) to answer
Does files from (Ok (asked.add r)) to answer = IsEditStep ok_line from (edits.add r) to answer
Does files from (Ok (asked.change r)) to answer = IsEditStep ok_line from (edits.change r) to answer
Does files from (Ok (asked.withdraw who when)) to answer =
    IsEditStep ok_line from (edits.withdraw who when) to answer
Does files from (Ok (asked.load file)) to answer = IsReadStep (IsTableStep from) files file to answer
Does files from (Ok asked.report) to answer = Stays from to (report_answer from) answer
Does files from (Ok asked.work) to answer = Stays from to (work_answer from) answer
Does files from (Ok (asked.trace who when)) to answer = Stays from to (trace_answer from.book who when) answer
Does files from (Ok (asked.filing month)) to answer = IsFileStep from month to answer
Does files from (Ok asked.owed) to answer = IsOwedStep from to answer
Does files from (Ok (asked.opening file)) to answer = IsReadStep (IsOpenStep from) files file to answer
Does files from (Ok (asked.trial day plan limits)) to answer =
    IsPlanStep IsTrialStep files from day plan limits to answer

-- the line asks for this file
abbrev pub IsFileOf : Asked → List ℕ → Type 0
IsFileOf (asked.plan day plan limits) name = (name ≡ plan) ⊎ (name ≡ limits)
IsFileOf (asked.load file) name = name ≡ file
IsFileOf (asked.opening file) name = name ≡ file
IsFileOf (asked.trial day plan limits) name = (name ≡ plan) ⊎ (name ≡ limits)
IsFileOf _ name = ⊥

-- the next file of a plan that is read: its flowchart, or the range file where the flowchart is there
abbrev pub IsNextOfPlan : FileMap → List ℕ → List ℕ → List ℕ → Type 0
IsNextOfPlan files plan limits name = (name ≡ plan) ⊎ ((name ≡ limits) × IsSome (files plan))

-- the line asks for this file, and those that are read before it are there
abbrev pub IsNextFile : FileMap → Asked → List ℕ → Type 0
IsNextFile files (asked.plan day plan limits) name = IsNextOfPlan files plan limits name
IsNextFile files (asked.load file) name = name ≡ file
IsNextFile files (asked.opening file) name = name ≡ file
IsNextFile files (asked.trial day plan limits) name = IsNextOfPlan files plan limits name
IsNextFile files _ name = ⊥
