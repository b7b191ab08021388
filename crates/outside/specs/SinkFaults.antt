-- Why the system takes no output, and what that prints as.
use Rattle.std.specs.Prelude.{ℕ, ℤ, pos, List, codes, Bool, false, Option, None, Some, if◌then◌else◌}
use Rattle.std.specs.Ordering.{int_eq}
use Rattle.std.specs.IoError.{error_kind, raw_os_error}
use Rattle.std.specs.declared.io.Error.{Error}
use Rattle.std.specs.declared.io.ErrorKind.{ErrorKind}
use Rattle.std.specs.declared.io.ErrorKind.TheVariants.{BrokenPipe, StorageFull, QuotaExceeded, FileTooLarge}
use Rattle.outside.specs.declared.sink_fault.SinkFault.{SinkFault}
use Rattle.outside.specs.declared.sink_fault.SinkFault.TheVariants.{Shut, Closed, Full, Unwritable}

-- the fault that an error of this kind is
abbrev pub sink_fault_of_kind : ErrorKind → SinkFault
sink_fault_of_kind BrokenPipe = Closed
sink_fault_of_kind StorageFull = Full
sink_fault_of_kind QuotaExceeded = Full
sink_fault_of_kind FileTooLarge = Full
sink_fault_of_kind _ = Unwritable

-- whether the system's number of an error is that of a descriptor that isn't open, which has no kind of its own
abbrev pub is_shut : Option ℤ → Bool
is_shut None = false
is_shut (Some code) = int_eq code (pos 9)

-- the fault that an error is
abbrev pub sink_fault_of : Error → SinkFault
sink_fault_of error = if is_shut (raw_os_error error) then Shut else sink_fault_of_kind (error_kind error)

-- why output isn't taken, in words
abbrev pub sink_fault_text : SinkFault → List ℕ
sink_fault_text Shut = codes "it is closed"
sink_fault_text Closed = codes "its reader has closed the pipe"
sink_fault_text Full = codes "there is no room left on the device"
sink_fault_text Unwritable = codes "the system refuses it"
