-- What is said of a fault of a range file's entries: with which words that begins, and where.
use Rattle.std.specs.Prelude.{◌≡◌, ℕ, List, ◌++◌, codes, Option, IfSome}
use Rattle.range_faults.specs.declared.fault.Section.{Section}
use Rattle.range_faults.specs.declared.fault.Section.TheVariants.{Input}
use Rattle.range_faults.specs.declared.fault.EntryFault.{EntryFault}
use Rattle.range_faults.specs.declared.fault.EntryFault.TheVariants as faults
use Rattle.range_faults.specs.EntryFaults.{section_name}
use Rattle.plain_words.specs.Lines.{StartsWith}
use Rattle.plain_words.specs.Places.{PlanFiles, in_ranges, words_at, IsReason}
use Rattle.plain_words.specs.EntryPlaces.{IsByteOfFault}

-- an entry by its heading
abbrev pub headed_entry_text : Section → List ℕ → List ℕ
headed_entry_text section entry =
    codes "the entry [" ++ (section_name section ++ (codes "." ++ (entry ++ codes "] ")))

-- what a fault names: a key of the file, an entry, a key in an entry, or the bounds in one
abbrev pub entry_fault_text : EntryFault → List ℕ
entry_fault_text (faults.NoSection key) = codes "the key " ++ (key ++ codes " ")
entry_fault_text (faults.Entry section entry) = headed_entry_text section entry
entry_fault_text (faults.Key section entry key) =
    codes "in " ++ (headed_entry_text section entry ++ (codes "the key " ++ (key ++ codes " ")))
entry_fault_text (faults.Bounds entry) = codes "in " ++ headed_entry_text Input entry

-- the text of a reason, in which what is wrong starts with what this fault names
pub record IsReasonOfEntry (fault : EntryFault) (text : List ℕ) : Type 0 where
  pub reason : IsReason text
  pub says : StartsWith (entry_fault_text fault) reason.wrong

-- the words begin with a place of this fault in the range file, where it is known, and go on with a reason of the fault
pub record BeginsAtEntry (files : PlanFiles) (fault : EntryFault) (words : List ℕ) : Type 0 where
  pub at : Option ℕ
  pub place : IfSome at (IsByteOfFault files.ranges.bytes fault)
  pub text : List ℕ
  pub reason : IsReasonOfEntry fault text
  pub begins : words ≡ words_at files (in_ranges at) text
