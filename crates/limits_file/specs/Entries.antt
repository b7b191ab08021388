-- An entry of a range file: a table of its own, under a name.
use Rattle.std.specs.Prelude.{ℕ, Bool, not, if◌then◌else◌, List, Option, Some, None, is_some, option_and_then}
use Rattle.std.specs.List.{list_all}
use Rattle.std.specs.Option.{option_or}
use Rattle.toml.specs.Data.{Data, table, Members, no_members, member, get_member, as_str}
use Rattle.pap_tree.specs.Names.{is_name}

-- the form of an entry: which values its keys may have, and which keys it needs
pub record EntryForm : Type 0 where
  pub suits : Members → List ℕ → Data → Bool
  pub needed : Members → List (List ℕ)

-- the key stands in the entry
abbrev pub has_key : Members → List ℕ → Bool
has_key entry key = is_some (get_member key entry)

-- the text that a key of the entry has
abbrev pub text_at : List ℕ → Members → Option (List ℕ)
text_at key entry = option_and_then as_str (get_member key entry)

-- the first key, in byte order, that doesn't pass the test
abbrev pub first_unsuited : (List ℕ → Data → Bool) → Members → Option (List ℕ)
first_unsuited suits no_members = None
first_unsuited suits (member key value rest) =
    if suits key value then first_unsuited suits rest else Some key

-- the keys and values of an entry
abbrev pub entry_members : Data → Members
entry_members (table entry) = entry
entry_members value = no_members

-- whether an entry has the keys that it needs
abbrev pub has_needed_keys : EntryForm → Members → Bool
has_needed_keys form entry = list_all (has_key entry) (form.needed entry)

-- the key at which an entry fails: its own where it isn't a name or the entry isn't a table; else the first of its
-- keys that an entry doesn't have or whose value doesn't suit it; else its own where a key is missing
abbrev pub failing_key : EntryForm → List ℕ → Data → Option (List ℕ)
failing_key form name (table entry) =
    if not (is_name name) then Some name
    else option_or (first_unsuited (form.suits entry) entry)
    (if has_needed_keys form entry then None else Some name)
failing_key form name value = Some name
