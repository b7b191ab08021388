-- All faults of a range file, in the order in which it is read. Source: docs/PROFILE.md, "Declared ranges".
use Rattle.std.specs.Prelude.{◌≡◌, ℕ, suc, List, [], ◌∷◌, ◌++◌, Ok, Err, codes, MatchBool, MatchOption, slice_get}
use Rattle.std.specs.Str.{bytes_eq}
use Rattle.toml.specs.Data.{Data, table, Members, no_members, member}
use Rattle.limits_file.specs.declared.limits.Limits.{Limits}
use Rattle.limits_file.specs.RangeFiles.{FileSays, IsToml}
use Rattle.range_faults.specs.declared.fault.EntryFault.{EntryFault}
use Rattle.range_faults.specs.declared.fault.EntryFault.TheVariants.{NoSection}
use Rattle.range_faults.specs.EntryFaults.{AreBindingFaults, AreInputFaults, refused_for}

-- Are n key value faults: the key with its value, which n keys stand before, has these faults
module _ (Are : ℕ → List ℕ → Data → List EntryFault → Type 0) where
  -- the faults of all of the keys, one key's after the other's
  abbrev pub AreFaultsOfAll : ℕ → Members → List EntryFault → Type 0
  AreFaultsOfAll n no_members faults = faults ≡ []
  AreFaultsOfAll n (member key value rest) faults =
      (own : List EntryFault) × (later : List EntryFault) × Are n key value own
      × AreFaultsOfAll (suc n) rest later × (faults ≡ own ++ later)

-- A key of the file: the faults of the entries of `bind` or `input`, and any other key is a fault.
abbrev pub AreSectionFaults : ℕ → List ℕ → Data → List EntryFault → Type 0
AreSectionFaults n key (table entries) faults =
    MatchBool (bytes_eq key (codes "bind")) (AreFaultsOfAll AreBindingFaults 0 entries faults)
    (MatchBool (bytes_eq key (codes "input")) (AreFaultsOfAll AreInputFaults 0 entries faults)
    (faults ≡ NoSection key ∷ []))
AreSectionFaults n key value faults = faults ≡ NoSection key ∷ []

-- all faults of the table of a range file
abbrev pub AreTableFaults : Members → List EntryFault → Type 0
AreTableFaults file faults = AreFaultsOfAll AreSectionFaults 0 file faults

-- all faults of a range file that is TOML
abbrev pub AreFileFaults : List ℕ → List EntryFault → Type 0
AreFileFaults bytes faults = (file : Members) × IsToml bytes file × AreTableFaults file faults

-- the text of a range file isn't a table
abbrev pub IsNoTable : List ℕ → Type 0
IsNoTable bytes = (file : Members) → IsToml bytes file → ⊥

-- ---- laws

-- a text has this list of faults, and no other
pub record HasOneList (bytes : List ℕ) : Type 0 where
  pub faults : List EntryFault
  pub are : AreFileFaults bytes faults
  pub alone : (other : List EntryFault) → AreFileFaults bytes other → other ≡ faults

-- a range file that is TOML has one list of faults
abbrev pub HaveOneList : Type 0
HaveOneList = (bytes : List ℕ) (file : Members) → IsToml bytes file → HasOneList bytes

-- a range file is refused for the first of its faults, and where it has none it says limits
abbrev pub FirstEntryFaultIsAnswered : Type 0
FirstEntryFaultIsAnswered =
    (bytes : List ℕ) (faults : List EntryFault) → AreFileFaults bytes faults
    → MatchOption (slice_get faults 0) ((limits : Limits) × FileSays bytes (Ok limits))
    (λ fault. FileSays bytes (Err (refused_for fault)))
