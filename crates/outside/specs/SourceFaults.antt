-- Why the system gives no input, as that prints.
use Rattle.std.specs.Prelude.{ℕ, List, codes}
use Rattle.outside.specs.declared.source_fault.SourceFault.{SourceFault}
use Rattle.outside.specs.declared.source_fault.SourceFault.TheVariants.{Closed, Folder, Unreadable}

-- why input isn't given, in words
abbrev pub source_fault_text : SourceFault → List ℕ
source_fault_text Closed = codes "it is closed"
source_fault_text Folder = codes "it is a folder"
source_fault_text Unreadable = codes "the system refuses it"
