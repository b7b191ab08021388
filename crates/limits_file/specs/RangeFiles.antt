-- What a range file says: its limits, or its first fault. Source: docs/PROFILE.md, "Declared ranges"; TOML is what the
-- kit's `toml` reads (its grammar of TOML 1.1).
use Rattle.std.specs.Prelude.{◌≡◌, ℕ, ◌<◌, ◌≤◌, List, [], length, map, flat_map, Some, None, Result, Err, codes, IsTrue, IsUtf8, MatchBool}
use Rattle.std.specs.Cmp.Lexicographic.{slice_cmp}
use Rattle.std.specs.Ordering.{nat_cmp}
use Rattle.std.specs.List.Sorted.{IsStrictlySortedBy}
use Rattle.std.specs.Str.{bytes_eq}
use Rattle.toml.specs.Data.{Data, table, Members, members_are_sorted}
use Rattle.toml.specs.Parse.{parse_document}
use Rattle.limits_file.specs.declared.limits.InputLimit.{InputLimit}
use Rattle.limits_file.specs.declared.limits.Binding.{Binding}
use Rattle.limits_file.specs.declared.limits.Limits.{Limits}
use Rattle.limits_file.specs.Labels.{label_of}
use Rattle.limits_file.specs.Limits.{longest_limits}
use Rattle.limits_file.specs.Faults.{Fault, too_long, no_toml, bad_key}
use Rattle.limits_file.specs.Walks.{KeysSay}
use Rattle.limits_file.specs.Inputs.{InputSays}
use Rattle.limits_file.specs.Bindings.{BindingSays}

-- a range file's limits of inputs, as limits without bindings
abbrev pub with_inputs : List InputLimit → Limits
with_inputs inputs = record { inputs = inputs; bindings = [] }

-- a range file's bindings, as limits without inputs
abbrev pub with_bindings : List Binding → Limits
with_bindings bindings = record { inputs = []; bindings = bindings }

-- what several parts give, one part after the other
abbrev pub joined_limits : List Limits → Limits
joined_limits parts = record {
  inputs = flat_map (λ part. part.inputs) parts;
  bindings = flat_map (λ part. part.bindings) parts;
}

-- A key of the file: `bind` and `input` are tables of entries, and any other key is a fault.
abbrev pub SectionSays : ℕ → List ℕ → Data → Result Limits Fault → Type 0
SectionSays n key (table entries) answer =
    MatchBool (bytes_eq key (codes "bind")) (KeysSay BindingSays with_bindings entries answer)
    (MatchBool (bytes_eq key (codes "input")) (KeysSay InputSays with_inputs entries answer)
    (answer ≡ Err (bad_key (label_of key))))
SectionSays n key value answer = answer ≡ Err (bad_key (label_of key))

-- the text isn't too long, and isn't TOML
pub record IsNoToml (bytes : List ℕ) : Type 0 where
  pub short : length bytes ≤ longest_limits
  pub refused : IsUtf8 bytes → parse_document bytes ≡ None

-- the text isn't too long, and is this TOML table
pub record IsToml (bytes : List ℕ) (file : Members) : Type 0 where
  pub short : length bytes ≤ longest_limits
  pub text : IsUtf8 bytes
  pub parsed : parse_document bytes ≡ Some file

-- the limits of a range file, or its first fault
abbrev pub FileSays : List ℕ → Result Limits Fault → Type 0
FileSays bytes (Err too_long) = longest_limits < length bytes
FileSays bytes (Err no_toml) = IsNoToml bytes
FileSays bytes answer =
    (file : Members) × IsToml bytes file × KeysSay SectionSays joined_limits file answer

-- a text says one thing
pub record RangeFileHasOneAnswer (bytes : List ℕ) : Type 0 where
  pub answer : Result Limits Fault
  pub says : FileSays bytes answer
  pub alone : (other : Result Limits Fault) → FileSays bytes other → other ≡ answer

-- the names stand in byte order, and none stands twice
abbrev pub NamesAscend : List (List ℕ) → Type 0
NamesAscend = IsStrictlySortedBy (slice_cmp nat_cmp)

-- the limits and the bindings, each by the names of their inputs
pub record NamesAreInOrder (limits : Limits) : Type 0 where
  pub inputs : NamesAscend (map (λ limit. limit.name) limits.inputs)
  pub bindings : NamesAscend (map (λ binding. binding.input) limits.bindings)

-- The keys of each file stand in the order of their bytes and none stands twice, and so do those of each table in it.
abbrev pub FilesAreInOrder : Type 0
FilesAreInOrder = (bytes : List ℕ) (file : Members) → IsToml bytes file → IsTrue (members_are_sorted file)
