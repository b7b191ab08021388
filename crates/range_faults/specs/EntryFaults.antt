-- All faults of an entry of a range file. Source: docs/PROFILE.md, "Declared ranges".
use Rattle.std.specs.Prelude.{◌≡◌, ℕ, not, if◌then◌else◌, ◌⊎◌, List, [], ◌∷◌, ◌++◌, map, Ok, Err, Bool, codes}
use Rattle.toml.specs.Data.{Data, table, Members, no_members, member}
use Rattle.pap_tree.specs.Names.{is_name}
use Rattle.limits_file.specs.declared.limits.InputLimit.{InputLimit}
use Rattle.limits_file.specs.Labels.{label_of}
use Rattle.limits_file.specs.Faults.{Fault, bad_key, bad_bound}
use Rattle.limits_file.specs.Entries.{EntryForm, has_needed_keys}
use Rattle.limits_file.specs.Bindings.{binding_form}
use Rattle.limits_file.specs.Inputs.{input_form, InputSays}
use Rattle.range_faults.specs.declared.fault.Section.{Section}
use Rattle.range_faults.specs.declared.fault.Section.TheVariants.{Bind, Input}
use Rattle.range_faults.specs.declared.fault.EntryFault.{EntryFault}
use Rattle.range_faults.specs.declared.fault.EntryFault.TheVariants as faults

-- the key of a table of entries
abbrev pub section_name : Section → List ℕ
section_name Bind = codes "bind"
section_name Input = codes "input"

-- the form of the entries of a table
abbrev pub entry_form : Section → EntryForm
entry_form Bind = binding_form
entry_form Input = input_form

-- a fault as the one that a range file is refused for: the label of its key, or of its input
abbrev pub refused_for : EntryFault → Fault
refused_for (faults.NoSection key) = bad_key (label_of key)
refused_for (faults.Entry section entry) = bad_key (label_of entry)
refused_for (faults.Key section entry key) = bad_key (label_of key)
refused_for (faults.Bounds entry) = bad_bound (label_of entry)

-- each key that doesn't pass the test, in byte order
abbrev pub unsuited_keys : (List ℕ → Data → Bool) → Members → List (List ℕ)
unsuited_keys suits no_members = []
unsuited_keys suits (member key value rest) =
    if suits key value then unsuited_keys suits rest else key ∷ unsuited_keys suits rest

-- the faults of the keys of an entry that has the name of an input: each key that an entry doesn't have or whose value doesn't suit
-- it, and then the entry's own where a key is missing
abbrev pub named_faults : Section → List ℕ → Members → List EntryFault
named_faults section name entry =
    map (faults.Key section name) (unsuited_keys ((entry_form section).suits entry) entry)
    ++ (if has_needed_keys (entry_form section) entry then [] else faults.Entry section name ∷ [])

-- the faults of an entry's keys: its own where it isn't a name or the entry isn't a table, else those of the keys in it
abbrev pub key_faults : Section → List ℕ → Data → List EntryFault
key_faults section name (table entry) =
    if not (is_name name) then faults.Entry section name ∷ [] else named_faults section name entry
key_faults section name value = faults.Entry section name ∷ []

-- An entry of `[bind]` has the faults of its keys.
abbrev pub AreBindingFaults : ℕ → List ℕ → Data → List EntryFault → Type 0
AreBindingFaults n name value found = found ≡ key_faults Bind name value

-- the faults of an entry that n others stand before and whose keys have these: those, or where there is none that of its bounds
-- where they break their rule or there are too many inputs
abbrev pub AreWithBounds : ℕ → List ℕ → Data → List EntryFault → List EntryFault → Type 0
AreWithBounds n name value [] found =
    ((limit : InputLimit) × InputSays n name value (Ok limit) × (found ≡ []))
    ⊎ (InputSays n name value (Err (bad_bound (label_of name))) × (found ≡ faults.Bounds name ∷ []))
AreWithBounds n name value (first ∷ more) found = found ≡ first ∷ more

-- An entry of `[input]` that n others stand before has the faults of its keys, or where there is none that of its bounds.
abbrev pub AreInputFaults : ℕ → List ℕ → Data → List EntryFault → Type 0
AreInputFaults n name value found = AreWithBounds n name value (key_faults Input name value) found
