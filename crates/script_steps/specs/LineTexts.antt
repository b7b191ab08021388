-- The lines with which the lines of a script are answered (docs/PROFILE.md, "Scripts").
use Rattle.std.specs.Prelude.{ℕ, List, [], ◌∷◌, ◌++◌, codes, Option, Some, None, true, false}
use Rattle.std.specs.Fmt.{decimal as number}
use Rattle.std.specs.List.{flat_map}
use Rattle.scaled_decimal.specs.Decimals.{Decimal}
use Rattle.scaled_decimal.specs.PlainTexts.{plain_text}
use Rattle.payroll_records.specs.declared.table.TableFault.{TableFault}
use Rattle.payroll_records.specs.declared.table.TableFault.TheVariants as tables
use Rattle.payroll_records.specs.Days.{month_text}
use Rattle.payroll_records.specs.Whens.{when_text}
use Rattle.saved_items.specs.SavedBooks.{day_word}
use Rattle.script_lang.specs.declared.fault.LineFault.{LineFault}
use Rattle.script_lang.specs.declared.fault.LineFault.TheVariants as lines
use Rattle.book_year.specs.declared.outcome.Work.{Work}
use Rattle.book_edits.specs.declared.refusal.EditRefusal.{EditRefusal}
use Rattle.book_edits.specs.declared.refusal.EditRefusal.TheVariants as edits
use Rattle.month_trace.specs.declared.refusal.TraceRefusal.{TraceRefusal}
use Rattle.month_trace.specs.declared.refusal.TraceRefusal.TheVariants as traces
use Rattle.month_trace.specs.declared.step.TraceStep.{TraceStep}
use Rattle.month_trace.specs.declared.step.TraceStep.TheVariants.{Set, Test, Enter}
use Rattle.correction_ledger.specs.declared.due.Due.{Due}
use Rattle.correction_ledger.specs.declared.due.Entry.{Entry}
use Rattle.correction_ledger.specs.declared.ledger.FileRefusal.{FileRefusal}
use Rattle.correction_ledger.specs.declared.ledger.FileRefusal.TheVariants as filing
use Rattle.correction_ledger.specs.declared.ledger.OwedRefusal.{OwedRefusal}
use Rattle.correction_ledger.specs.declared.ledger.OwedRefusal.TheVariants as owed
use Rattle.book_file.specs.declared.refusal.BookFault.{BookFault}
use Rattle.book_file.specs.declared.refusal.BookFault.TheVariants as books
use Rattle.what_if.specs.declared.trial.Shown.{Shown}
use Rattle.what_if.specs.declared.trial.Shown.TheVariants as shown
use Rattle.what_if.specs.declared.trial.Trial.{Trial}
use Rattle.what_if.specs.declared.trial.TrialRow.{TrialRow}
use Rattle.what_if.specs.declared.trial.TrialRow.TheVariants.{Changed, Value}
use Rattle.plan_answers.specs.Lines.{spaced, line}

-- an edit was made
abbrev pub ok_line : List ℕ
ok_line = line (codes "ok")

-- the last line of a report, a trace and of what is owed
abbrev pub end_line : List ℕ
end_line = line (codes "end")

-- the work of the last edit: work RUNS STEPS
abbrev pub work_line : Work → List ℕ
work_line w = line (codes "work " ++ spaced (number w.runs) (number w.steps))

-- ---- traces

-- a statement as it is written: METHOD:STMT
abbrev pub site : List ℕ → ℕ → List ℕ
site method stmt = method ++ (58 ∷ number stmt)

-- a statement of a trace: set METHOD:STMT NAME VALUE, test METHOD:STMT yes or no, call METHOD:STMT METHOD
abbrev pub step_line : TraceStep → List ℕ
step_line (Set m n x v) = line (codes "set " ++ spaced (site m n) (spaced x (plain_text v)))
step_line (Test m n true) = line (codes "test " ++ spaced (site m n) (codes "yes"))
step_line (Test m n false) = line (codes "test " ++ spaced (site m n) (codes "no"))
step_line (Enter m n callee) = line (codes "call " ++ spaced (site m n) callee)

-- a line a step, and a last line
abbrev pub trace_text : List TraceStep → List ℕ
trace_text steps = flat_map step_line steps ++ end_line

-- ---- filings

-- the words of an entry or an amount: EMP DAY NAME AMOUNT
abbrev pub due_words : Due → List ℕ
due_words d =
    spaced d.key.employee (spaced (day_word d.key.day) (spaced d.name (plain_text d.amount)))

-- an entry that is filed: due EMP DAY NAME AMOUNT
abbrev pub due_line : Entry → List ℕ
due_line e = line (codes "due " ++ due_words e.due)

-- an amount that is owed: owed EMP DAY NAME AMOUNT
abbrev pub owed_line : Due → List ℕ
owed_line d = line (codes "owed " ++ due_words d)

-- a line for each entry that is filed, and their number
abbrev pub filed_text : List Entry → ℕ → List ℕ
filed_text entries count = flat_map due_line entries ++ line (codes "filed " ++ number count)

-- a line for each amount that is owed, and a last line
abbrev pub owed_text : List Due → List ℕ
owed_text dues = flat_map owed_line dues ++ end_line

-- ---- trials

-- the state of a run before and after a trial
abbrev pub shown_word : Shown → List ℕ
shown_word shown.NoPlan = codes "noplan"
shown_word shown.Waits = codes "waits"
shown_word shown.Unknown = codes "unknown"
shown_word shown.Missing = codes "missing"
shown_word shown.Range = codes "range"
shown_word shown.Done = codes "ok"

-- the value of an output in a trial, or `-` where it has none
abbrev pub amount_word : Option Decimal → List ℕ
amount_word None = codes "-"
amount_word (Some v) = plain_text v

-- what a trial would change, a run's state or an output's value: changed EMP DAY OLD NEW, value EMP DAY NAME
-- OLD NEW
abbrev pub trial_line : TrialRow → List ℕ
trial_line (Changed k before after) =
    line (codes "changed " ++ spaced k.employee (spaced (day_word k.day) (spaced (shown_word before) (shown_word after))))
trial_line (Value k name before after) =
    line (codes "value " ++ spaced k.employee (spaced (day_word k.day)
    (spaced name (spaced (amount_word before) (amount_word after)))))

-- the work that putting the tried plan would have: would RUNS STEPS
abbrev pub would_line : Work → List ℕ
would_line w = line (codes "would " ++ spaced (number w.runs) (number w.steps))

-- a line a row, and this work
abbrev pub trial_text : Trial → List ℕ
trial_text t = flat_map trial_line t.rows ++ would_line t.work

-- ---- what is written after `refused`: the group, the name and the details; memory that ran out has none

-- why a line is refused
abbrev pub line_detail : LineFault → List ℕ
line_detail lines.Command = codes "line Command"
line_detail lines.Words = codes "line Words"
line_detail lines.Employee = codes "line Employee"
line_detail lines.Month = codes "line Month"
line_detail lines.Day = codes "line Day"
line_detail (lines.Value word) = codes "line Value " ++ number word
line_detail (lines.Twice name) = codes "line Twice " ++ name
line_detail lines.LineLong = codes "line LineLong"
line_detail (lines.Memory e) = []

-- why a table is refused; rows count from 1 after the header
abbrev pub table_detail : TableFault → List ℕ
table_detail tables.Header = codes "table Header"
table_detail (tables.Width row) = codes "table Width " ++ number row
table_detail (tables.Employee row) = codes "table Employee " ++ number row
table_detail (tables.Month row) = codes "table Month " ++ number row
table_detail (tables.Day row) = codes "table Day " ++ number row
table_detail (tables.Value row name) = codes "table Value " ++ spaced (number row) name
table_detail (tables.Repeat row) = codes "table Repeat " ++ number row
table_detail tables.TableLong = codes "table TableLong"
table_detail (tables.Memory e) = []

-- why an edit of the book is refused
abbrev pub edit_detail : EditRefusal → List ℕ
edit_detail (edits.Present k) = codes "edit Present " ++ spaced k.employee (day_word k.day)
edit_detail (edits.Absent e w) = codes "edit Absent " ++ spaced e (when_text w)
edit_detail (edits.Several e m) = codes "edit Several " ++ spaced e (month_text m.year m.month)
edit_detail edits.Records = codes "edit Records"
edit_detail edits.Plans = codes "edit Plans"
edit_detail (edits.NoPlanThere d) = codes "edit NoPlanThere " ++ day_word d
edit_detail (edits.Memory e) = []

-- why a trace is refused
abbrev pub trace_detail : TraceRefusal → List ℕ
trace_detail (traces.Absent e w) = codes "trace Absent " ++ spaced e (when_text w)
trace_detail (traces.Several e m) = codes "trace Several " ++ spaced e (month_text m.year m.month)
trace_detail (traces.NotDone k) = codes "trace NotDone " ++ spaced k.employee (day_word k.day)
trace_detail (traces.Memory e) = []

-- why a month isn't filed
abbrev pub file_detail : FileRefusal → List ℕ
file_detail (filing.Early last) = codes "file Early " ++ month_text last.year last.month
file_detail (filing.Open k) = codes "file Open " ++ spaced k.employee (day_word k.day)
file_detail filing.Entries = codes "file Entries"
file_detail (filing.Memory e) = []

-- why it isn't known what is owed
abbrev pub owed_detail : OwedRefusal → List ℕ
owed_detail owed.NothingFiled = codes "file NothingFiled"
owed_detail (owed.Open k) = codes "file Open " ++ spaced k.employee (day_word k.day)
owed_detail (owed.Memory e) = []

-- why a text isn't that of a saved book
abbrev pub book_detail : BookFault → List ℕ
book_detail books.Long = codes "book Long"
book_detail (books.Form item) = codes "book Form " ++ number item
book_detail (books.Plan day) = codes "book Plan " ++ day_word day
book_detail (books.Memory e) = []
