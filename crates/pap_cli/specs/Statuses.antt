-- How a call ends.
use Rattle.std.specs.Prelude.{ℕ, Bool, if◌then◌else◌, Result, Ok, Err, ⊤}
use Rattle.script_run.specs.declared.stop.Stop.{Stop}
use Rattle.script_run.specs.declared.stop.Stop.TheVariants as stops
use Rattle.pap_cli.specs.declared.status.Status.{Status}
use Rattle.pap_cli.specs.declared.status.Status.TheVariants.{Done, Refused, BadWords, FileFault, ReadFault, WriteFault, NoMemory, ScriptLong}

-- the number of a status, with which the program ends
abbrev pub status_number : Status → ℕ
status_number Done = 0
status_number Refused = 1
status_number BadWords = 2
status_number FileFault = 3
status_number ReadFault = 4
status_number WriteFault = 5
status_number NoMemory = 6
status_number ScriptLong = 7

-- the status of an answer that was written whole
abbrev pub done_status : Bool → Status
done_status refused = if refused then Refused else Done

-- the answer was written whole
abbrev pub IsDone : Status → Type 0
IsDone Done = ⊤
IsDone Refused = ⊤
IsDone _ = ⊥

-- the status of a call that ended
abbrev pub status_of : Result Bool Stop → Status
status_of (Ok refused) = done_status refused
status_of (Err stops.File) = FileFault
status_of (Err stops.Read) = ReadFault
status_of (Err stops.Write) = WriteFault
status_of (Err stops.Memory) = NoMemory
status_of (Err stops.Long) = ScriptLong
