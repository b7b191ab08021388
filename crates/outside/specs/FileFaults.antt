-- Why the system doesn't read a file, and what that prints as.
use Rattle.std.specs.Prelude.{ℕ, List, Option, codes, string_bytes, option_map}
use Rattle.outside.specs.declared.file_fault.FileFault.{FileFault}
use Rattle.outside.specs.declared.file_fault.FileFault.TheVariants.{Missing, Forbidden, Folder, Unreadable}
use Rattle.outside.specs.declared.file_fault.FailedFile.{FailedFile}

-- why a file isn't read, in words
abbrev pub fault_text : FileFault → List ℕ
fault_text Missing = codes "there is no such file"
fault_text Forbidden = codes "permission denied"
fault_text Folder = codes "it is a folder"
fault_text Unreadable = codes "it can't be read"

-- the name of the file that failed, where there is one
abbrev pub failed_name : Option FailedFile → Option (List ℕ)
failed_name file = option_map (λ f. string_bytes f.name) file
