-- What the function of a kind of line leaves, before its answer is written.
use Rattle.std.specs.Prelude.{◌≡◌, ◌⊎◌, ℕ, ◌+◌, ◌≤◌, List, [], ◌++◌, Bool, Option, Some, Result, Ok, Err}
use Rattle.std.specs.Option.{ForSome}
use Rattle.outside.specs.Told.{FileMap, Appends, AppendsFront, AppendsShort}
use Rattle.script_lang.specs.Commands.{Asked}
use Rattle.script_lang.specs.declared.fault.LineFault.{LineFault}
use Rattle.script_lang.specs.declared.fault.LineFault.TheVariants as lines
use Rattle.payroll_records.specs.declared.table.TableFault.{TableFault}
use Rattle.payroll_records.specs.declared.table.TableFault.TheVariants as tables
use Rattle.book_year.specs.declared.outcome.Work.{Work}
use Rattle.book_edits.specs.declared.refusal.EditRefusal.{EditRefusal}
use Rattle.book_edits.specs.declared.refusal.EditRefusal.TheVariants as edits
use Rattle.month_trace.specs.declared.refusal.TraceRefusal.{TraceRefusal}
use Rattle.month_trace.specs.declared.refusal.TraceRefusal.TheVariants as traces
use Rattle.correction_ledger.specs.declared.ledger.FileRefusal.{FileRefusal}
use Rattle.correction_ledger.specs.declared.ledger.FileRefusal.TheVariants as filing
use Rattle.correction_ledger.specs.declared.ledger.OwedRefusal.{OwedRefusal}
use Rattle.correction_ledger.specs.declared.ledger.OwedRefusal.TheVariants as owed
use Rattle.book_file.specs.declared.refusal.BookFault.{BookFault}
use Rattle.book_file.specs.declared.refusal.BookFault.TheVariants as books
use Rattle.what_if.specs.declared.trial.Trial.{Trial}
use Rattle.what_if.specs.declared.trial.TryRefusal.{TryRefusal}
use Rattle.what_if.specs.declared.trial.TryRefusal.TheVariants as trying
use Rattle.plan_answers.specs.Answers.{Answer, refusal}
use Rattle.script_steps.specs.declared.stop.LineStop.{LineStop}
use Rattle.script_steps.specs.declared.stop.LineStop.TheVariants as stops
use Rattle.script_steps.specs.LineSteps.{Does, IsFileOf, IsNextFile}
use Rattle.script_steps.specs.LineTexts.{line_detail, table_detail, edit_detail, trace_detail, file_detail, owed_detail}
use Rattle.script_steps.specs.LineTexts.{book_detail, trial_text}
use Rattle.script_steps.specs.Standings.{Standing, Doing, answered, more_work}

-- the line has left this and has this answer, whose steps were counted
pub record IsMade (Step : Doing) (to : Standing) (before now : ℕ) (answer : Answer) : Type 0 where
  pub is : Step to answer
  pub counted : now ≡ before + answer.steps

-- the line leaves something and has some answer, at most whose steps were counted
pub record IsLost (Step : Doing) (before now : ℕ) : Type 0 where
  pub to : Standing
  pub answer : Answer
  pub is : Step to answer
  pub later : before ≤ now
  pub within : now ≤ before + answer.steps

-- out of memory: nothing was counted, or so much of a line
abbrev pub IsWant : Doing → ℕ → ℕ → Type 0
IsWant Step before now = (now ≡ before) ⊎ IsLost Step before now

-- what a line does that says this, where the files tell what they hold
abbrev pub ToldDoes : Option FileMap → Standing → Result Asked LineFault → Doing
ToldDoes told from said to answer = ForSome told (λ files. Does files from said to answer)

-- the files failed at one that is asked for, and nothing was counted
pub record IsFileFault (told : Option FileMap) (what : Asked) (before now : ℕ) (failed : Option (List ℕ)) : Type 0 where
  pub uncounted : now ≡ before
  pub name : List ℕ
  pub is_file : IsFileOf what name
  pub in_order : ForSome told (λ files. IsNextFile files what name)
  pub failed_there : failed ≡ Some name

-- no reply was made, by the cause
abbrev pub IsUnmade : Option FileMap → Doing → Asked → ℕ → ℕ → Option (List ℕ) → LineStop → Type 0
IsUnmade told Step what before now failed stops.File = IsFileFault told what before now failed
IsUnmade told Step what before now failed stops.Write = ⊥
IsUnmade told Step what before now failed stops.Memory = IsWant Step before now

-- ---- refusals that are written, which want of memory is not

abbrev pub IsLineRefusal : LineFault → Answer → Type 0
IsLineRefusal (lines.Memory e) answer = ⊥
IsLineRefusal why answer = answer ≡ refusal (line_detail why)

abbrev pub IsTableRefusal : TableFault → Answer → Type 0
IsTableRefusal (tables.Memory e) answer = ⊥
IsTableRefusal why answer = answer ≡ refusal (table_detail why)

abbrev pub IsEditRefusal : EditRefusal → Answer → Type 0
IsEditRefusal (edits.Memory e) answer = ⊥
IsEditRefusal why answer = answer ≡ refusal (edit_detail why)

abbrev pub IsTraceRefusal : TraceRefusal → Answer → Type 0
IsTraceRefusal (traces.Memory e) answer = ⊥
IsTraceRefusal why answer = answer ≡ refusal (trace_detail why)

abbrev pub IsFileRefusal : FileRefusal → Answer → Type 0
IsFileRefusal (filing.Memory e) answer = ⊥
IsFileRefusal why answer = answer ≡ refusal (file_detail why)

abbrev pub IsOwedRefusal : OwedRefusal → Answer → Type 0
IsOwedRefusal (owed.Memory e) answer = ⊥
IsOwedRefusal why answer = answer ≡ refusal (owed_detail why)

abbrev pub IsBookRefusal : BookFault → Answer → Type 0
IsBookRefusal (books.Memory e) answer = ⊥
IsBookRefusal why answer = answer ≡ refusal (book_detail why)

-- what is answered to a trial, behind the line of the plan's bound
abbrev pub IsTrialReply : List ℕ → Result Trial TryRefusal → Answer → Type 0
IsTrialReply bound (Ok trial) answer = answer ≡ answered (bound ++ trial_text trial) trial.work.steps
IsTrialReply bound (Err trying.Plans) answer = IsEditRefusal edits.Plans answer
IsTrialReply bound (Err (trying.Memory e)) answer = ⊥

-- what is answered to an edit that the book has made or refused
abbrev pub IsEditReply : List ℕ → Result Work EditRefusal → Answer → Type 0
IsEditReply text (Ok work) answer = answer ≡ answered text work.steps
IsEditReply text (Err why) answer = IsEditRefusal why answer

-- the work of all edits behind one that the book has made or refused
abbrev pub work_behind : Work → Result Work EditRefusal → Work
work_behind before (Ok work) = more_work before work
work_behind before (Err why) = before

-- ---- what was written

-- the answer's text, and its mark was told
pub record IsWritten (old new : Option (List ℕ)) (text : List ℕ) (mark refused : Bool) : Type 0 where
  pub marked : refused ≡ mark
  pub appended : Appends old new text

-- a front of the text, which is not the whole where the sink failed
abbrev pub IsFrontWritten : Option (List ℕ) → Option (List ℕ) → List ℕ → LineStop → Type 0
IsFrontWritten old new text stops.File = ⊥
IsFrontWritten old new text stops.Write = AppendsShort old new text
IsFrontWritten old new text stops.Memory = AppendsFront old new text

-- the same of the refusal of a line; out of memory nothing is written of it
pub record IsRefusalWritten (old new : Option (List ℕ)) (why : LineFault) (refused : Bool) : Type 0 where
  pub answer : Answer
  pub is : IsLineRefusal why answer
  pub written : IsWritten old new answer.text answer.refused refused

pub record IsRefusalCut (old new : Option (List ℕ)) (why : LineFault) : Type 0 where
  pub answer : Answer
  pub is : IsLineRefusal why answer
  pub cut : AppendsShort old new answer.text

abbrev pub IsRefusalUnwritten : Option (List ℕ) → Option (List ℕ) → LineFault → LineStop → Type 0
IsRefusalUnwritten old new why stops.File = ⊥
IsRefusalUnwritten old new why stops.Write = IsRefusalCut old new why
IsRefusalUnwritten old new why stops.Memory = Appends old new []
