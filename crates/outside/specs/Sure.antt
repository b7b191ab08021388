-- What contracts see of `SureFiles`.
use Rattle.std.specs.Prelude.{ℕ, List, Option}
use Rattle.outside.specs.Memory.{named_files, name_bytes}
use Rattle.outside.specs.declared.sure.SureFiles.{SureFiles}

-- the name and the content of each file
abbrev pub sure_files : SureFiles → List (List ℕ × List ℕ)
sure_files s = named_files s.files.items

-- how many calls failed
abbrev pub sure_faults : SureFiles → ℕ
sure_faults s = s.faults

-- the name of the last call that failed
abbrev pub sure_failed : SureFiles → Option (List ℕ)
sure_failed s = name_bytes s.failed
