-- Commands as contracts see them: texts as their bytes, records as their fields.
use Rattle.std.specs.Prelude.{string_bytes}
use Rattle.payroll_records.specs.Tables.{Text}
use Rattle.payroll_records.specs.declared.day.Day.{Day}
use Rattle.payroll_records.specs.declared.month.Month.{Month}
use Rattle.payroll_records.specs.declared.record.Record.{Record}
use Rattle.payroll_records.specs.declared.when.When.{When}
use Rattle.script_lang.specs.declared.command.Command.{Command}
use Rattle.script_lang.specs.declared.command.Command.TheVariants as code

-- what a line asks for
pub data Asked : Type 0 where
  nothing : Asked
  -- from a day on, the plan and the limits of these files
  plan : Day → Text → Text → Asked
  drop : Day → Asked
  add : Record → Asked
  change : Record → Asked
  -- the run of an employee in a month or on a day
  withdraw : Text → When → Asked
  load : Text → Asked
  report : Asked
  work : Asked
  -- the executed statements of the run of an employee in a month or on a day
  trace : Text → When → Asked
  -- this month is filed; its line begins with `file`
  filing : Month → Asked
  owed : Asked
  -- the book of a saved text, which this file holds; its line begins with `open`
  opening : Text → Asked
  -- what the plan and the limits of these files would change if they stood from a day on; its line begins with `try`
  trial : Day → Text → Text → Asked

-- what a command of the program asks for
abbrev pub asked_of : Command → Asked
asked_of code.Nothing = nothing
asked_of (code.Plan day file limits) = plan day (string_bytes file) (string_bytes limits)
asked_of (code.Drop day) = drop day
asked_of (code.Add run) = add run
asked_of (code.Change run) = change run
asked_of (code.Withdraw employee time) = withdraw employee time
asked_of (code.Load file) = load (string_bytes file)
asked_of code.Report = report
asked_of code.Work = work
asked_of (code.Trace employee time) = trace employee time
asked_of (code.File m) = filing m
asked_of code.Owed = owed
asked_of (code.Open file) = opening (string_bytes file)
asked_of (code.Try day file limits) = trial day (string_bytes file) (string_bytes limits)
