-- The lines of a script (docs/PROFILE.md, "Scripts"): what a line asks for, or why it is refused.
use Rattle.std.specs.Prelude.{◌≡◌, ◌≢◌, ◌<◌, ◌≤◌, ◌&&◌, Bool, true, false, nat_le, List, [], ◌∷◌, ◌++◌, length, slice_index, codes, IsTrue, Result, Ok, Err, ⊤}
use Rattle.std.specs.List.{AllByRecursion}
use Rattle.payroll_records.specs.Days.{IsDayText, IsMonthText}
use Rattle.payroll_records.specs.Employees.{is_employee}
use Rattle.payroll_records.specs.Limits.{most_values}
use Rattle.payroll_records.specs.Tables.{Text}
use Rattle.payroll_records.specs.ValueWords.{AreValueWords}
use Rattle.payroll_records.specs.declared.day.Day.{Day}
use Rattle.payroll_records.specs.declared.month.Month.{Month}
use Rattle.payroll_records.specs.declared.record.Record.{Record}
use Rattle.payroll_records.specs.declared.when.When.{When}
use Rattle.payroll_records.specs.Whens.{IsWhenText}
use Rattle.script_lang.specs.Commands as asked
use Rattle.script_lang.specs.Commands.{Asked}
use Rattle.script_lang.specs.Fields as field
use Rattle.script_lang.specs.Fields.{Field, IsGood, fault_of, run_fields, record_fields}
use Rattle.script_lang.specs.Limits.{most_line}
use Rattle.script_lang.specs.Words.{words_in_line, is_file}
use Rattle.script_lang.specs.declared.fault.LineFault.{LineFault}
use Rattle.script_lang.specs.declared.fault.LineFault.TheVariants as fault

-- a line has at most so many bytes
abbrev pub IsShort : Text → Type 0
IsShort line = length line ≤ most_line

-- the line has no words, or is a comment: its first word begins with `#`
abbrev pub IsSilent : List Text → Type 0
IsSilent [] = ⊤
IsSilent (word ∷ words) = slice_index word 0 ≡ 35

-- ---- what a line asks for

-- the word is that of this day
abbrev pub IsDayWord : Text → Day → Type 0
IsDayWord word d = IsDayText word d.year d.month d.day

-- plan DAY PLANFILE LIMITFILE and try DAY PLANFILE LIMITFILE
pub record IsOfPlan (command : Text) (words : List Text) (d : Day) (plan limits : Text) : Type 0 where
  pub word : Text
  pub words_are : words ≡ command ∷ word ∷ plan ∷ limits ∷ []
  pub plan_is : IsTrue (is_file plan)
  pub limits_is : IsTrue (is_file limits)
  pub day_is : IsDayWord word d

-- drop DAY
pub record IsDrop (words : List Text) (d : Day) : Type 0 where
  pub word : Text
  pub words_are : words ≡ codes "drop" ∷ word ∷ []
  pub day_is : IsDayWord word d

-- add EMP MONTH DAY NAME=VALUE .. and change EMP MONTH DAY NAME=VALUE ..: the day lies in the month, and the record's values
-- are those of the value words, in order of their names
pub record IsOfRecord (command : Text) (words : List Text) (r : Record) : Type 0 where
  pub month_word : Text
  pub day_word : Text
  pub value_words : List Text
  pub words_are : words ≡ command ∷ r.employee ∷ month_word ∷ day_word ∷ value_words
  pub employee_is : IsTrue (is_employee r.employee)
  pub month_is : IsMonthText month_word r.day.year r.day.month
  pub day_is : IsDayWord day_word r.day
  pub values_are : AreValueWords value_words r.values

-- withdraw EMP WHEN and trace EMP WHEN
pub record IsOfRun (command : Text) (words : List Text) (who : Text) (time : When) : Type 0 where
  pub word : Text
  pub words_are : words ≡ command ∷ who ∷ word ∷ []
  pub employee_is : IsTrue (is_employee who)
  pub time_is : IsWhenText word time

-- load FILE and open FILE
pub record IsOfFile (command : Text) (words : List Text) (file : Text) : Type 0 where
  pub words_are : words ≡ command ∷ file ∷ []
  pub file_is : IsTrue (is_file file)

-- file MONTH
pub record IsFileMonth (words : List Text) (m : Month) : Type 0 where
  pub word : Text
  pub words_are : words ≡ codes "file" ∷ word ∷ []
  pub month_is : IsMonthText word m.year m.month

-- what the words ask for
abbrev pub Ask : List Text → Asked → Type 0
Ask words asked.nothing = IsSilent words
Ask words (asked.plan d plan limits) = IsOfPlan (codes "plan") words d plan limits
Ask words (asked.drop d) = IsDrop words d
Ask words (asked.add r) = IsOfRecord (codes "add") words r
Ask words (asked.change r) = IsOfRecord (codes "change") words r
Ask words (asked.withdraw who time) = IsOfRun (codes "withdraw") words who time
Ask words (asked.load file) = IsOfFile (codes "load") words file
Ask words asked.report = words ≡ codes "report" ∷ []
Ask words asked.work = words ≡ codes "work" ∷ []
Ask words (asked.trace who time) = IsOfRun (codes "trace") words who time
Ask words (asked.filing m) = IsFileMonth words m
Ask words asked.owed = words ≡ codes "owed" ∷ []
Ask words (asked.opening file) = IsOfFile (codes "open") words file
Ask words (asked.trial d plan limits) = IsOfPlan (codes "try") words d plan limits

-- what a line asks for
pub record IsLine (line : Text) (what : Asked) : Type 0 where
  pub short : IsShort line
  pub ask : Ask (words_in_line line) what

-- ---- why a line is refused

-- the commands, each by its first word
pub data Verb : Type 0 where
  plan : Verb
  drop : Verb
  add : Verb
  change : Verb
  withdraw : Verb
  load : Verb
  report : Verb
  work : Verb
  trace : Verb
  filing : Verb
  owed : Verb
  opening : Verb
  trial : Verb

-- the first word of a command's line
abbrev pub text_of : Verb → Text
text_of plan = codes "plan"
text_of drop = codes "drop"
text_of add = codes "add"
text_of change = codes "change"
text_of withdraw = codes "withdraw"
text_of load = codes "load"
text_of report = codes "report"
text_of work = codes "work"
text_of trace = codes "trace"
text_of filing = codes "file"
text_of owed = codes "owed"
text_of opening = codes "open"
text_of trial = codes "try"

-- the words are an employee, a month, a day, and at most as many value words as a pay run has values
abbrev pub takes_record : List Text → Bool
takes_record (employee ∷ month ∷ day ∷ values) = nat_le (length values) most_values
takes_record _ = false

-- the words are an employee, and a month or a day
abbrev pub takes_run : List Text → Bool
takes_run (employee ∷ time ∷ []) = true
takes_run _ = false

-- the words are a day and two files
abbrev pub takes_plan : List Text → Bool
takes_plan (day ∷ file ∷ limits ∷ []) = is_file file && is_file limits
takes_plan _ = false

-- the words are a file
abbrev pub takes_file : List Text → Bool
takes_file (file ∷ []) = is_file file
takes_file _ = false

-- whether a command takes_words these words behind its first: as many as these, and files where it names files
abbrev pub takes_words : Verb → List Text → Bool
takes_words plan words = takes_plan words
takes_words drop (day ∷ []) = true
takes_words add words = takes_record words
takes_words change words = takes_record words
takes_words withdraw words = takes_run words
takes_words load words = takes_file words
takes_words report [] = true
takes_words work [] = true
takes_words trace words = takes_run words
takes_words filing (month ∷ []) = true
takes_words owed [] = true
takes_words opening words = takes_file words
takes_words trial words = takes_plan words
takes_words _ _ = false

-- the day of a plan
abbrev pub plan_fields : List Text → List Field
plan_fields (day ∷ file ∷ limits ∷ []) = field.day day ∷ []
plan_fields _ = []

-- what is asked of the words behind the first, from the left
abbrev pub fields_of : Verb → List Text → List Field
fields_of plan words = plan_fields words
fields_of drop (day ∷ []) = field.day day ∷ []
fields_of add words = record_fields words
fields_of change words = record_fields words
fields_of withdraw words = run_fields words
fields_of trace words = run_fields words
fields_of trial words = plan_fields words
fields_of filing (month ∷ []) = field.month month ∷ []
fields_of _ _ = []

-- there is a first word, which isn't a comment, and no command begins with it
pub record HaveNoVerb (words : List Text) : Type 0 where
  pub said : IsSilent words → ⊥
  pub unknown : (verb : Verb) (rest : List Text) → words ≢ text_of verb ∷ rest

-- the command of the first word does not take the others
pub record AreNotTaken (words : List Text) : Type 0 where
  pub verb : Verb
  pub rest : List Text
  pub words_are : words ≡ text_of verb ∷ rest
  pub wrong : takes_words verb rest ≡ false

-- the leftmost field that is not good has this fault
pub record IsFirstFault (fields : List Field) (f : LineFault) : Type 0 where
  pub before : List Field
  pub field : Field
  pub after : List Field
  pub parts : fields ≡ before ++ (field ∷ after)
  pub good : AllByRecursion IsGood before
  pub broken : IsGood field → ⊥
  pub fault_is : f ≡ fault_of field

-- the command of the first word takes_words the others, and the first fault among them is this
pub record HaveFirstFault (words : List Text) (f : LineFault) : Type 0 where
  pub verb : Verb
  pub rest : List Text
  pub words_are : words ≡ text_of verb ∷ rest
  pub taken : IsTrue (takes_words verb rest)
  pub first : IsFirstFault (fields_of verb rest) f

-- this is wrong with the words; or memory ran out, which may be at any words
abbrev pub AreWrong : List Text → LineFault → Type 0
AreWrong words fault.LineLong = ⊥
AreWrong words fault.Command = HaveNoVerb words
AreWrong words fault.Words = AreNotTaken words
AreWrong words (fault.Memory error) = ⊤
AreWrong words other = HaveFirstFault words other

-- why a line is refused; a line never says that memory ran out
abbrev pub IsLineFault : Text → LineFault → Type 0
IsLineFault line fault.LineLong = most_line < length line
IsLineFault line (fault.Memory error) = ⊥
IsLineFault line other = IsShort line × AreWrong (words_in_line line) other

-- why a call refuses a line: what the line says, or memory ran out, which may be at any line that isn't too long
abbrev pub IsLineFaultOrMemory : Text → LineFault → Type 0
IsLineFaultOrMemory line (fault.Memory error) = IsShort line
IsLineFaultOrMemory line other = IsLineFault line other

-- what a line says: what it asks for, or why it is refused
abbrev pub LineSays : Text → Result Asked LineFault → Type 0
LineSays line (Ok what) = IsLine line what
LineSays line (Err why) = IsLineFault line why

-- a line says one thing
pub record HasOneAnswer (line : Text) : Type 0 where
  pub answer : Result Asked LineFault
  pub says : LineSays line answer
  pub alone : (other : Result Asked LineFault) → LineSays line other → other ≡ answer
