-- Sets of names, and what a flowchart does with them.
use Rattle.std.specs.Prelude.{◌≡◌, ℕ, Bool, not, ◌&&◌, List}
use Rattle.std.specs.BTreeSet.{BTreeSet, contains}
use Rattle.std.specs.Cmp.Lexicographic.{slice_cmp}
use Rattle.std.specs.List.{list_any}
use Rattle.std.specs.Ordering.{nat_cmp}
use Rattle.std.specs.Str.{bytes_eq}
use Rattle.pap_tree.specs.Flowchart.{Flowchart}
use Rattle.pap_types.specs.Scopes.{names_of}
use Rattle.flowchart_findings.specs.declared.name_sets.NameSets.{NameSets}
use Rattle.flowchart_findings.specs.Uses.{read_names, assigned_names}

-- the name is in the set
abbrev pub has_in : BTreeSet (List ℕ) → List ℕ → Bool
has_in set x = contains (slice_cmp nat_cmp) set x

-- the set has these names
abbrev pub HasNames : List (List ℕ) → BTreeSet (List ℕ) → Type 0
HasNames names set = (x : List ℕ) → has_in set x ≡ list_any (bytes_eq x) names

-- the sets are those of the flowchart's names
pub record HaveNames (f : Flowchart) (sets : NameSets) : Type 0 where
  pub read : HasNames (read_names f) sets.read
  pub assigned : HasNames (assigned_names f) sets.assigned
  pub internals : HasNames (names_of f.internals) sets.internals

-- some expression names it
abbrev pub read_by : NameSets → List ℕ → Bool
read_by sets x = has_in sets.read x

-- some EVAL assigns it
abbrev pub assigned_by : NameSets → List ℕ → Bool
assigned_by sets x = has_in sets.assigned x

-- an internal name that no expression names
abbrev pub unused_by : NameSets → List ℕ → Bool
unused_by sets x = has_in sets.internals x && not (has_in sets.read x)
