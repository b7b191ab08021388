-- What private contracts cite beside the definitions of FileFaults.
use Rattle.std.specs.Prelude.{Option, Some, None}
use Rattle.std.specs.declared.io.ErrorKind.{ErrorKind}
use Rattle.std.specs.declared.io.ErrorKind.TheVariants.{NotFound, NotADirectory, PermissionDenied, IsADirectory, OutOfMemory}
use Rattle.outside.specs.declared.file_fault.FileFault.{FileFault}
use Rattle.outside.specs.declared.file_fault.FileFault.TheVariants.{Missing, Forbidden, Folder, Unreadable}

-- the fault that an error of this kind is; that memory ran out is none
abbrev pub fault_of : ErrorKind → Option FileFault
fault_of OutOfMemory = None
fault_of NotFound = Some Missing
fault_of NotADirectory = Some Missing
fault_of PermissionDenied = Some Forbidden
fault_of IsADirectory = Some Folder
fault_of _ = Some Unreadable
