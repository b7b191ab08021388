-- An entry of `[bind]`: what an input carries over from earlier runs.
use Rattle.std.specs.Prelude.{◌≡◌, ℕ, Bool, false, not, ◌&&◌, ◌||◌, if◌then◌else◌, List, [], ◌∷◌, Some, None, Result, Ok, Err, codes, option_map}
use Rattle.std.specs.Option.{option_map_or}
use Rattle.std.specs.Str.{bytes_eq}
use Rattle.toml.specs.Data.{Data, string, Members}
use Rattle.pap_tree.specs.Names.{is_name}
use Rattle.limits_file.specs.declared.limits.Carry.{Carry}
use Rattle.limits_file.specs.declared.limits.Carry.TheVariants.{Sum, Last, Count}
use Rattle.limits_file.specs.declared.limits.Binding.{Binding}
use Rattle.limits_file.specs.Labels.{label_of}
use Rattle.limits_file.specs.Faults.{Fault, bad_key}
use Rattle.limits_file.specs.Entries.{EntryForm, text_at, entry_members, failing_key}

-- the entry's kind is `count`
abbrev pub is_count : Members → Bool
is_count entry =
    option_map_or (λ kind. bytes_eq kind (codes "count")) (text_at (codes "kind") entry) false

-- the words that `kind` may be
abbrev pub is_binding_kind : List ℕ → Bool
is_binding_kind text =
    bytes_eq text (codes "sum") || bytes_eq text (codes "last") || bytes_eq text (codes "count")

-- `kind` is one of three words; `output` is a name, and stands only beside a kind that reads an output
abbrev pub suits_binding : Bool → List ℕ → Data → Bool
suits_binding counts key (string text) =
    (bytes_eq key (codes "kind") && is_binding_kind text)
    || (bytes_eq key (codes "output") && (is_name text && not counts))
suits_binding counts key value = false

-- an entry of `[bind]`: a `kind`, and an `output` unless it counts runs
abbrev pub binding_form : EntryForm
binding_form = record {
  suits = λ entry. suits_binding (is_count entry);
  needed = λ entry. codes "kind" ∷ (if is_count entry then [] else codes "output" ∷ []);
}

-- what the kind and the output say together
abbrev pub IsCarryOf : Members → Carry → Type 0
IsCarryOf entry (Sum output) =
    (text_at (codes "kind") entry ≡ Some (codes "sum"))
    × (text_at (codes "output") entry ≡ Some output)
IsCarryOf entry (Last output) =
    (text_at (codes "kind") entry ≡ Some (codes "last"))
    × (text_at (codes "output") entry ≡ Some output)
IsCarryOf entry Count = text_at (codes "kind") entry ≡ Some (codes "count")

-- An entry: its binding, or the key at which it fails.
abbrev pub BindingSays : ℕ → List ℕ → Data → Result Binding Fault → Type 0
BindingSays n name value (Ok binding) =
    (failing_key binding_form name value ≡ None) × (binding.input ≡ name)
    × IsCarryOf (entry_members value) binding.carry
BindingSays n name value (Err (bad_key label)) =
    option_map label_of (failing_key binding_form name value) ≡ Some label
BindingSays n name value (Err other) = ⊥
