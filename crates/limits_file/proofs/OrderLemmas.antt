-- What the keys of a table say stands in the order of the keys.
use Rattle.std.proofs.Common.{◌≡◌, ℕ, suc, List, [], ◌∷◌, map, String, Global, string_bytes, Less, nat_cmp, Ok, Result, ap₂, ◌∙◌}
use Rattle.std.specs.Cmp.Lexicographic.{slice_cmp}
use Rattle.std.specs.List.{AllByRecursion}
use Rattle.std.specs.List.Sorted.{IsStrictlySortedBy}
use Rattle.std.specs.Map.{keys_of}
use Rattle.std.specs.String.{string_cmp}
use Rattle.toml.specs.declared.value.Value.{Value}
use Rattle.toml.specs.Data.{Data}
use Rattle.toml.specs.View.{view, members_view}
use Rattle.limits_file.specs.declared.limits.InputLimit.{InputLimit}
use Rattle.limits_file.specs.declared.limits.Binding.{Binding}
use Rattle.limits_file.specs.Faults.{Fault}
use Rattle.limits_file.specs.Walks.{AllOrFirstFault}
use Rattle.limits_file.specs.Inputs.{InputSays}
use Rattle.limits_file.specs.Bindings.{BindingSays}
use Rattle.limits_file.specs.RangeFiles.{NamesAscend}

abbrev pub Entries : Type 0
Entries = List (String Global × Value)

module _ {A : Type 0} (Says : ℕ → List ℕ → Data → Result A Fault → Type 0) (name : A → List ℕ) (named : (n : ℕ) (key : List ℕ) (value : Data) (x : A) → Says n key value (Ok x) → name x ≡ key) where
  above : (first : List ℕ) (key : String Global) (n : ℕ) (es : Entries) (said : List A) → first ≡ string_bytes key → AllOrFirstFault Says n (members_view es) (Ok said) → AllByRecursion (λ k. string_cmp key k ≡ Less) (keys_of es) → AllByRecursion (λ k. slice_cmp nat_cmp first k ≡ Less) (map name said)
  above first key n [] said same h below = rw h tt
  above first key n (e ∷ es) [] same h below = absurd h
  above first key n (e ∷ es) (x ∷ said) same h below = (
    ap₂ (slice_cmp nat_cmp) same (named n (string_bytes e.0) (view e.1) x h.0) ∙ below.0,
    above first key (suc n) es said same h.1 below.1,
  )

  pub ascends : (n : ℕ) (es : Entries) (said : List A) → AllOrFirstFault Says n (members_view es) (Ok said) → IsStrictlySortedBy string_cmp (keys_of es) → NamesAscend (map name said)
  unfolding IsStrictlySortedBy
  ascends n [] said h sorted = rw h tt
  ascends n (e ∷ es) [] h sorted = absurd h
  ascends n (e ∷ es) (x ∷ said) h sorted = (
    above (name x) e.0 (suc n) es said (named n (string_bytes e.0) (view e.1) x h.0) h.1 sorted.0,
    ascends (suc n) es said h.1 sorted.1,
  )

pub input_named : (n : ℕ) (key : List ℕ) (value : Data) (limit : InputLimit) → InputSays n key value (Ok limit) → limit.name ≡ key
input_named n key value limit h = h.2.named

pub binding_named : (n : ℕ) (key : List ℕ) (value : Data) (binding : Binding) → BindingSays n key value (Ok binding) → binding.input ≡ key
binding_named n key value binding h = h.1
